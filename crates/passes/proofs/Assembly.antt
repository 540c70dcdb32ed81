-- An assembly by the way it ends.
use Prim.Native.Nat.{ℕ, ◌≤◌, ◌<◌}
use mathlib.Core.List.{List}
use mathlib.Core.Path.{◌≡◌, refl, sym, ap}
use mathlib.Core.Bool.{Bool, true, false}
use lib.ListN.{length}
use lib.Dec.{ltb}
use lib.Seq.{sets}
use borrow.Author.Tests.{eq-eqb, ne_eqb, lt-ltb, le-ltb}
use Rattle.std.specs.Prelude.{Ok}
use Rattle.values.specs.Tests.{pick}
use Rattle.names.specs.Names.{find}
use Rattle.names.specs.Table.{zeroed}
use Rattle.book.specs.Writing.{book_bytes}
use Rattle.cards.specs.Source.{source_no, cards_of}
use Rattle.passes.specs.One.{State, fresh, pass_one}
use Rattle.passes.specs.One.Passed.{through, stopped}
use Rattle.passes.specs.Two.{outset, check_two}
use Rattle.passes.specs.Assembly.{Translated, Outcome, after_two, after_one, assembled, work_size, refusal, refused_at_once, written, outcome_of, assembling}
use Rattle.passes.specs.Assembly.Translated.{made, refused}

-- THE CARDS

pub stopped-one : (ss : List (List ℕ)) (number card : ℕ) → stopped number card ≡ pass_one 1 fresh ss → assembled ss ≡ refused number card
unfolding assembled
stopped-one ss number card e = ap (after_one ss) (sym e)

pub through-one : (ss : List (List ℕ)) (st : State) → through st ≡ pass_one 1 fresh ss → assembled ss ≡ after_two ss st.names (check_two (find st.names) 1 outset ss)
unfolding assembled
through-one ss st e = ap (after_one ss) (sym e)

-- THE BOOK

pub too_long : (names : ℕ) (bytes work out : List ℕ) → length out < length bytes → written names bytes work out ≡ record { answer = refusal 30 0; work = work; out = out }
too_long names bytes work out h = rw (lt-ltb _ _ h)

pub fits : (names : ℕ) (bytes work out : List ℕ) → length bytes ≤ length out
    → written names bytes work out ≡ record { answer = Ok (record { length = length bytes; names = names }); work = work; out = sets out 0 bytes }
fits names bytes work out h = rw (le-ltb _ _ h)

-- the work area has no part in the answer and the output, and is what was given
pub same_answer : (r : Translated) (v w out : List ℕ) → (outcome_of r v out).answer ≡ (outcome_of r w out).answer
same_answer (made names book) v w out = go (ltb (length out) (length (book_bytes book)))
  where
    go : (b : Bool)
        → (pick {X = Outcome} b (record { answer = refusal 30 0; work = v; out = out }) (record { answer = Ok (record { length = length (book_bytes book); names = names }); work = v; out = sets out 0 (book_bytes book) })).answer
        ≡ (pick {X = Outcome} b (record { answer = refusal 30 0; work = w; out = out }) (record { answer = Ok (record { length = length (book_bytes book); names = names }); work = w; out = sets out 0 (book_bytes book) })).answer
    go true = refl
    go false = refl
same_answer (refused number card) v w out = refl

pub same_out : (r : Translated) (v w out : List ℕ) → (outcome_of r v out).out ≡ (outcome_of r w out).out
same_out (made names book) v w out = go (ltb (length out) (length (book_bytes book)))
  where
    go : (b : Bool)
        → (pick {X = Outcome} b (record { answer = refusal 30 0; work = v; out = out }) (record { answer = Ok (record { length = length (book_bytes book); names = names }); work = v; out = sets out 0 (book_bytes book) })).out
        ≡ (pick {X = Outcome} b (record { answer = refusal 30 0; work = w; out = out }) (record { answer = Ok (record { length = length (book_bytes book); names = names }); work = w; out = sets out 0 (book_bytes book) })).out
    go true = refl
    go false = refl
same_out (refused number card) v w out = refl

pub work-given : (r : Translated) (work out : List ℕ) → (outcome_of r work out).work ≡ work
work-given (made names book) work out = go (ltb (length out) (length (book_bytes book)))
  where
    go : (b : Bool)
        → (pick {X = Outcome} b (record { answer = refusal 30 0; work = work; out = out }) (record { answer = Ok (record { length = length (book_bytes book); names = names }); work = work; out = sets out 0 (book_bytes book) })).work ≡ work
    go true = refl
    go false = refl
work-given (refused number card) work out = refl

-- THE CALL

pub no_source : (width : ℕ) (source work out : List ℕ) → (source_no width (length source) ≡ 0 → ⊥)
    → assembling width source work out ≡ refused_at_once (source_no width (length source)) work out
unfolding assembling
no_source width source work out h = rw (ne_eqb _ _ h)

pub no_work : (width : ℕ) (source work out : List ℕ) → source_no width (length source) ≡ 0 → length work < work_size
    → assembling width source work out ≡ refused_at_once 3 work out
unfolding assembling
no_work width source work out e h = rw (eq-eqb _ _ e, lt-ltb _ _ h)

pub through_call : (width : ℕ) (source work out : List ℕ) → source_no width (length source) ≡ 0 → work_size ≤ length work
    → assembling width source work out ≡ outcome_of (assembled (cards_of width source)) (zeroed work_size work) out
unfolding assembling
through_call width source work out e h = rw (eq-eqb _ _ e, le-ltb _ _ h)
