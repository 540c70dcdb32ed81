-- TOLD ONCE (R21.1, R21.2). The contracts settle the whole reply and every lent byte:
-- two replies that meet a public contract are the same. And packing is one to one: two different answers are never packed to the same number.
use Rattle.std.specs.Prelude.{◌+◌, ◌*◌, ◌^◌, ◌≤◌, ◌<◌, ◌∷◌, ◌≡◌}
use Rattle.std.proofs.Common.{◌∙◌}
use Rattle.theorems.specs.Logic.{Unit, tt, ℕ, List, [], Bool, true, false, refl, sym, ap, arith, leb-true, Option, None, Some, Result, Ok, Err}
use Rattle.theorems.specs.Types.{Displacement, Stored, LoadError, Assembled, Refused, Record, Relocatable}
use Rattle.theorems.specs.Accepted.{made_answer}
use Rattle.theorems.specs.Judged.{stored_answer}
use Rattle.values.specs.Tests.{pick}
use Rattle.book.specs.Writing.{entry_fits, fair_all}
use Rattle.load.specs.Load.{bytes_stored, first_card, loading}
use Rattle.passes.specs.One.{fresh}
use Rattle.passes.specs.Assembly.{refusal, assembling}
use Rattle.passes.proofs.Names.{pass-few}
use Rattle.cards.specs.Source.{cards_of}
use Rattle.mersclund.specs.Packed.{packed_entry, packed_load, packed_assembled}
use Rattle.theorems.specs.ToldOnce.{Loads, Assembles, Prints}
use Rattle.theorems.proofs.Numbers.{cards_range}
use Rattle.book.proofs.Written.{book-length, records-length, fair-first, read-fair}
use Rattle.theorems.proofs.Readable.{accepted_source, fair-records}
use Rattle.theorems.proofs.Outcomes.{cards-few, Way, way, Load, load}
use Rattle.theorems.proofs.Outcomes.Why.{is_broken, is_outside, is_over, is_entry_over}

-- ONE REPLY

pub load-once : (book : List ℕ) (displacement : ℕ) (storage : List ℕ) (r s : ℕ) (m n : List ℕ)
    → Loads book displacement storage r m → Loads book displacement storage s n → (r ≡ s) × (m ≡ n)
load-once book displacement storage r s m n x y = (x.answer ∙ sym y.answer, x.stored ∙ sym y.stored)

pub assemble_once : (width : ℕ) (source work out : List ℕ) (r s : ℕ) (w x o p : List ℕ)
    → Assembles width source work out r w o → Assembles width source work out s x p → (r ≡ s) × (w ≡ x) × (o ≡ p)
assemble_once width source work out r s w x o p f g = (f.answer ∙ sym g.answer, f.worked ∙ sym g.worked, f.written ∙ sym g.written)

pub print_once : (input buffer : List ℕ) (r s : ℕ) (m n : List ℕ) → Prints input buffer r m → Prints input buffer s n → (r ≡ s) × (m ≡ n)
print_once input buffer r s m n x y = (x.answer ∙ sym y.answer, x.written ∙ sym y.written)

-- WHAT A LOAD ANSWERS FITS: the bytes stored in 32 bits, an entry in 16, a card below 2^56

abbrev Fits : Result Stored LoadError → Type 0
Fits (Ok s) = (s.bytes < 2 ^ 32) × (entry_fits s.entry ≡ true)
Fits (Err LoadError.Broken) = Unit {0}
Fits (Err (LoadError.Outside card)) = card ≤ 4000
Fits (Err (LoadError.Over card)) = card ≤ 4000

-- R16.4: the card of the first record that fails is at most 4,000
first-low : (fails : Record → Bool) (rs : List Record) (last : ℕ) → fair_all last rs ≡ true → first_card fails rs ≤ 4000
unfolding first_card
first-low fails [] last f = omega arith
first-low fails (r ∷ rs) last f =
    let (is, others) = fair-first last r rs f in
    go (fails r) is.card (first-low fails rs r.card others)
  where
    go : (b : Bool) → r.card ≤ 4000 → first_card fails rs ≤ 4000 → pick b r.card (first_card fails rs) ≤ 4000
    go true h k = h
    go false h k = k

-- at most 256 bytes for each card number
stored_low : (rs : List Record) (last : ℕ) → fair_all last rs ≡ true → last ≤ 4000 → bytes_stored rs + 256 * last ≤ 1024000
unfolding bytes_stored
stored_low [] last f h = omega arith
stored_low (r ∷ rs) last f h =
    let (is, others) = fair-first last r rs f in
    let card = is.card in
    let ih = stored_low rs r.card others card in
    omega arith

load_fits : (s : List ℕ) (d : Displacement) (m : List ℕ) → Fits (loading s d m).answer
load_fits s d m = go (load s d m)
  where
    go : {a : Result Stored LoadError} {x : List ℕ} → Load s d m a x → Fits a
    go (Load.is_refused (is_broken f)) = tt
    go (Load.is_refused (is_outside b f n)) = first-low _ b.records 0 (read-fair s b f)
    go (Load.is_refused (is_over b f i n)) = first-low _ b.records 0 (read-fair s b f)
    go (Load.is_refused (is_entry_over b f i u o)) = omega arith
    go (Load.is_stored b f i u o at x l) = let low = stored_low b.records 0 (read-fair s b f) (omega arith) in (omega arith, l)

-- PACKING ONE TO ONE

entry_packed : (x y : ℕ) (e f : Option Relocatable) → x < 2 ^ 32 → y < 2 ^ 32 → entry_fits e ≡ true → entry_fits f ≡ true
    → x + packed_entry e ≡ y + packed_entry f → stored_answer x e ≡ stored_answer y f
entry_packed x y None None h k i j q = let same : x ≡ y = omega arith in ap (λ n. stored_answer n None) same
entry_packed x y None (Some w) h k i j q = absurd (omega arith)
entry_packed x y (Some v) None h k i j q = absurd (omega arith)
entry_packed x y (Some v) (Some w) h k i j q =
    let low = leb-true v.0 65535 i in
    let low' = leb-true w.0 65535 j in
    let same : x ≡ y = omega arith in
    let at : v.0 ≡ w.0 = omega arith in
    let to : v ≡ w = ap (λ (n : ℕ). record { 0 = n }) at in
    cc

-- an accepted answer is below 2^56, a refusal is not
entry-low : (e : Option Relocatable) → entry_fits e ≡ true → packed_entry e < 2 ^ 49
entry-low None h = omega arith
entry-low (Some v) h = let low = leb-true v.0 65535 h in omega arith

load_packed : (a b : Result Stored LoadError) → Fits a → Fits b → packed_load a ≡ packed_load b → a ≡ b
load_packed (Ok x) (Ok y) (h, i) (k, j) q = entry_packed x.bytes y.bytes x.entry y.entry h k i j q
load_packed (Err LoadError.Broken) (Err LoadError.Broken) h k q = refl
load_packed (Err (LoadError.Outside x)) (Err (LoadError.Outside y)) h k q = ap (λ n. Err (LoadError.Outside n)) (omega arith)
load_packed (Err (LoadError.Over x)) (Err (LoadError.Over y)) h k q = ap (λ n. Err (LoadError.Over n)) (omega arith)
load_packed (Ok x) (Err LoadError.Broken) (h, i) k q = absurd (omega (arith, entry-low x.entry i))
load_packed (Ok x) (Err (LoadError.Outside y)) (h, i) k q = absurd (omega (arith, entry-low x.entry i))
load_packed (Ok x) (Err (LoadError.Over y)) (h, i) k q = absurd (omega (arith, entry-low x.entry i))
load_packed (Err LoadError.Broken) (Ok y) h (k, j) q = absurd (omega (arith, entry-low y.entry j))
load_packed (Err LoadError.Broken) (Err (LoadError.Outside y)) h k q = absurd (omega arith)
load_packed (Err LoadError.Broken) (Err (LoadError.Over y)) h k q = absurd (omega arith)
load_packed (Err (LoadError.Outside x)) (Ok y) h (k, j) q = absurd (omega (arith, entry-low y.entry j))
load_packed (Err (LoadError.Outside x)) (Err LoadError.Broken) h k q = absurd (omega arith)
load_packed (Err (LoadError.Outside x)) (Err (LoadError.Over y)) h k q = absurd (omega arith)
load_packed (Err (LoadError.Over x)) (Ok y) h (k, j) q = absurd (omega (arith, entry-low y.entry j))
load_packed (Err (LoadError.Over x)) (Err LoadError.Broken) h k q = absurd (omega arith)
load_packed (Err (LoadError.Over x)) (Err (LoadError.Outside y)) h k q = absurd (omega arith)

-- two loads, of whatever books into whatever storages, that answer with the same number answer the same
pub load-one_to_one : (s : List ℕ) (d : Displacement) (m : List ℕ) (t : List ℕ) (e : Displacement) (n : List ℕ)
    → packed_load (loading s d m).answer ≡ packed_load (loading t e n).answer → (loading s d m).answer ≡ (loading t e n).answer
load-one_to_one s d m t e n = load_packed (loading s d m).answer (loading t e n).answer (load_fits s d m) (load_fits t e n)

-- WHAT AN ASSEMBLY ANSWERS FITS: the book's length in 32 bits, at most 512 names; a number of refusal that is not 0, with a card

abbrev FitsIn : Result Assembled Refused → Type 0
FitsIn (Ok a) = (a.length ≤ 1564008) × (a.names ≤ 512)
FitsIn (Err r) = (1 ≤ r.number) × (r.number ≤ 30) × (r.card ≤ 4000)

assemble_fits : (width : ℕ) (source work out : List ℕ) → FitsIn (assembling width source work out).answer
assemble_fits width source work out = go (way width source work out)
  where
    go : {a : Result Assembled Refused} {w o : List ℕ} → Way width source work out a w o → FitsIn a
    go (Way.at_once n l u) = (l, omega arith, omega arith)
    go (Way.by_cards w f n k e) =
        let r = cards_range (cards_of width source) n k e in
        let few = cards-few width source f in
        (omega arith, omega arith, omega arith)
    go (Way.too_long_book w) = (omega arith, omega arith, omega arith)
    go (Way.whole w f n b e l) =
        let p = accepted_source (cards_of width source) n b e in
        let names = pass-few (cards_of width source) 1 fresh p.end p.one (omega arith) in
        let size = book-length b in
        let (low, _) = records-length b.records 0 (fair-records (cards_of width source) (cards-few width source f) n b e) (omega arith) in
        (omega arith, omega arith)

assemble_packed : (a b : Result Assembled Refused) → FitsIn a → FitsIn b → packed_assembled a ≡ packed_assembled b → a ≡ b
assemble_packed (Ok x) (Ok y) (h, i) (k, j) q =
    let bytes : x.length ≡ y.length = omega arith in
    let names : x.names ≡ y.names = omega arith in
    ap (λ n. made_answer n x.names) bytes ∙ ap (made_answer y.length) names
assemble_packed (Err x) (Err y) (h, i, l) (k, j, o) q =
    let number : x.number ≡ y.number = omega arith in
    let card : x.card ≡ y.card = omega arith in
    ap (λ n. refusal n x.card) number ∙ ap (refusal y.number) card
assemble_packed (Ok x) (Err y) (h, i) (k, j, o) q = absurd (omega arith)
assemble_packed (Err x) (Ok y) (h, i, l) (k, j) q = absurd (omega arith)

-- two assemblies, of whatever sources, that answer with the same number answer the same
pub assemble_one_to_one : (width : ℕ) (source work out : List ℕ) (width' : ℕ) (source' work' out' : List ℕ)
    → packed_assembled (assembling width source work out).answer ≡ packed_assembled (assembling width' source' work' out').answer
    → (assembling width source work out).answer ≡ (assembling width' source' work' out').answer
assemble_one_to_one width source work out width' source' work' out' =
    assemble_packed (assembling width source work out).answer (assembling width' source' work' out').answer (assemble_fits width source work out) (assemble_fits width' source' work' out')
