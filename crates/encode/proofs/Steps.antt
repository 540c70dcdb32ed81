-- Statements as the code works them out: their text and fields by cases, sizes and counts, and a turn of each loop.
use Prim.Native.Nat.{ℕ, zero, suc, ◌+◌, ◌-◌, ◌*◌, ◌/◌, ◌%◌, ◌≤◌, ◌<◌}
use mathlib.Core.List.{List, [], ◌∷◌, ◌++◌}
use mathlib.Core.Path.{◌≡◌, refl, sym, ap, ◌∙◌}
use mathlib.Core.Bool.{Bool, true, false}
use mathlib.Core.Logic.{inl, inr}
use native.Mathlib.Omega.{arith}
use lib.ListN.{length, set, length-append}
use lib.Seq.{sets}
use lib.Dec.{eqb}
use borrow.Author.Tests.{eq-eqb, ne_eqb}
use types.Run.{OneOf, miss}
use denote.Enum.Declared.{tag_of}
use Rattle.values.specs.Tests.{pick}
use Rattle.values.specs.Words.{two_bytes}
use Rattle.values.specs.declared.Value.{Value}
use Rattle.values.specs.declared.Value.TheVariants.{Absolute, Relocatable}
use Rattle.values.proofs.Laws.{sets_append}
use Rattle.values.specs.Values.{amount_of}
use Rattle.operations.specs.declared.Operation.{Operation}
use Rattle.operations.specs.declared.Operation.TheVariants.{Jump}
use Rattle.operations.specs.Codes.{operation_byte}
use Rattle.places.specs.declared.Operand.{Operand}
use Rattle.places.specs.declared.Operand.TheVariants.{Direct, Indexed}
use Rattle.statements.specs.declared.Statement.{Statement}
use Rattle.statements.specs.contracts.Statement.{the_type}
use Rattle.places.specs.Places.{operand_size}
use Rattle.encode.specs.Pieces.{Piece, text_of, offsets_from, fields_of, mode_of, operand_pieces, address_pieces, copied, pieces_of}
use Rattle.encode.specs.Pieces.Piece.{plain, value}
use Rattle.encode.specs.Steps.{constant_size, value_count, operand_count, constant_count, two_apart}
use Rattle.encode.proofs.Laws.{text_append, fields_append, copied_more, copied_none, copied-size}

-- OPERANDS

pub operand-size : (x : Operand) → length (text_of (operand_pieces x)) ≡ operand_size x
unfolding text_of
operand-size (Direct v) = refl
operand-size (Indexed v r d) = refl

pub operand-count : (at : ℕ) (x : Operand) → length (offsets_from at (operand_pieces x)) ≡ operand_count x
unfolding offsets_from
operand-count at (Direct (Absolute a)) = refl
operand-count at (Direct (Relocatable a)) = refl
operand-count at (Indexed v r d) = refl

pub operand_field : (at : ℕ) (x : Operand) → operand_count x ≡ 1 → offsets_from at (operand_pieces x) ≡ at ∷ []
unfolding offsets_from
operand_field at (Direct (Absolute a)) e = absurd (omega arith)
operand_field at (Direct (Relocatable a)) e = refl
operand_field at (Indexed v r d) e = absurd (omega arith)

pub operand-none : (at : ℕ) (x : Operand) → (operand_count x ≡ 1 → ⊥) → offsets_from at (operand_pieces x) ≡ []
unfolding offsets_from
operand-none at (Direct (Absolute a)) n = refl
operand-none at (Direct (Relocatable a)) n = absurd (n refl)
operand-none at (Indexed v r d) n = refl

-- ADDRESS CONSTANTS

module _ (m : ℕ) (v : Value) where
  pub address-one : m ≡ 1 → text_of (address_pieces m v) ≡ amount_of v % 256 ∷ []
  unfolding address_pieces text_of
  address-one e = rw (eq-eqb m 1 e)

  pub address_three : (m ≡ 1 → ⊥) → m ≡ 3 → text_of (address_pieces m v) ≡ 0 ∷ two_bytes (amount_of v)
  unfolding address_pieces text_of
  address_three n e = rw (ne_eqb m 1 n, eq-eqb m 3 e)

  pub address-two : (m ≡ 1 → ⊥) → (m ≡ 3 → ⊥) → text_of (address_pieces m v) ≡ two_bytes (amount_of v)
  unfolding address_pieces text_of
  address-two n k = rw (ne_eqb m 1 n, ne_eqb m 3 k)

pub constant-size : (m : ℕ) (v : Value) → length (text_of (address_pieces m v)) ≡ constant_size m
unfolding address_pieces text_of
constant-size m v = go (eqb m 1) (eqb m 3)
  where
    go : (x y : Bool)
        → length (text_of (pick x (plain (amount_of v % 256) ∷ []) (pick y (plain 0 ∷ plain (amount_of v / 256 % 256) ∷ plain (amount_of v % 256) ∷ []) (value v ∷ []))))
        ≡ pick x 1 (pick y 3 2)
    go true y = refl
    go false true = refl
    go false false = refl

-- copies of pieces without a field have none
no_fields : (n : ℕ) (ps : List Piece) → ((at : ℕ) → offsets_from at ps ≡ []) → (at : ℕ) → offsets_from at (copied n ps) ≡ []
unfolding copied offsets_from
no_fields zero ps h at = refl
no_fields (suc n) ps h at = fields_append at ps (copied n ps) ∙ rw (h at) (no_fields n ps h (at + length (text_of ps)))

-- copies of a value have one each, where it is relocatable
value-fields : (n : ℕ) (v : Value) (at : ℕ) → offsets_from at (copied n (value v ∷ [])) ≡ two_apart (value_count v n) at
unfolding copied offsets_from two_apart
value-fields n (Absolute a) at = no_fields n (value (Absolute a) ∷ []) (λ at. refl) at
value-fields zero (Relocatable a) at = refl
value-fields (suc n) (Relocatable a) at = ap (λ l. at ∷ l) (value-fields n (Relocatable a) (at + 2))

pub address_fields : (n m : ℕ) (v : Value) (at : ℕ) → offsets_from at (copied n (address_pieces m v)) ≡ two_apart (constant_count n m v) at
unfolding address_pieces offsets_from two_apart
address_fields n m v at = go (eqb m 1) (eqb m 3)
  where
    go : (x y : Bool)
        → offsets_from at (copied n (pick x (plain (amount_of v % 256) ∷ []) (pick y (plain 0 ∷ plain (amount_of v / 256 % 256) ∷ plain (amount_of v % 256) ∷ []) (value v ∷ []))))
        ≡ two_apart (pick x 0 (pick y 0 (value_count v n))) at
    go true y = no_fields n (plain (amount_of v % 256) ∷ []) (λ at. refl) at
    go false true = no_fields n (plain 0 ∷ plain (amount_of v / 256 % 256) ∷ plain (amount_of v % 256) ∷ []) (λ at. refl) at
    go false false = value-fields n v at

pub apart-length : (n at : ℕ) → length (two_apart n at) ≡ n
unfolding two_apart
apart-length zero at = refl
apart-length (suc n) at = ap suc (apart-length n (at + 2))

-- STATEMENTS

pub two-text : (op : Operation) (q : ℕ) (a b : Operand)
    → text_of (pieces_of (Statement.TwoAddresses op q a b)) ≡ operation_byte op (mode_of a) (mode_of b) ∷ q ∷ (text_of (operand_pieces a) ++ text_of (operand_pieces b))
unfolding pieces_of text_of
two-text op q a b = ap (λ l. operation_byte op (mode_of a) (mode_of b) ∷ q ∷ l) (text_append (operand_pieces a) (operand_pieces b))

pub one-text : (op : Operation) (q : ℕ) (a : Operand) → text_of (pieces_of (Statement.OneAddress op q a)) ≡ operation_byte op (mode_of a) (mode_of a) ∷ q ∷ text_of (operand_pieces a)
unfolding pieces_of text_of
one-text op q a = refl

pub jump-text : (q byte : ℕ) → text_of (pieces_of (Statement.Jump q byte)) ≡ operation_byte Jump 0 0 ∷ q ∷ byte ∷ []
unfolding pieces_of text_of
jump-text q byte = refl

pub addresses_text : (n m : ℕ) (v : Value) → text_of (pieces_of (Statement.AddressConstants n m v)) ≡ text_of (copied n (address_pieces m v))
unfolding pieces_of
addresses_text n m v = refl

pub none-text : text_of (pieces_of Statement.NoBytes) ≡ []
unfolding pieces_of text_of
none-text = refl

pub two_fields : (op : Operation) (q : ℕ) (a b : Operand)
    → fields_of (pieces_of (Statement.TwoAddresses op q a b)) ≡ offsets_from 2 (operand_pieces a) ++ offsets_from (2 + operand_size a) (operand_pieces b)
unfolding pieces_of offsets_from
two_fields op q a b = fields_append 2 (operand_pieces a) (operand_pieces b) ∙ rw (operand-size a)

pub one-fields : (op : Operation) (q : ℕ) (a : Operand) → fields_of (pieces_of (Statement.OneAddress op q a)) ≡ offsets_from 2 (operand_pieces a)
unfolding pieces_of offsets_from
one-fields op q a = refl

pub addresses_fields : (n m : ℕ) (v : Value) → fields_of (pieces_of (Statement.AddressConstants n m v)) ≡ fields_of (copied n (address_pieces m v))
unfolding pieces_of
addresses_fields n m v = refl

pub none-fields : fields_of (pieces_of Statement.NoBytes) ≡ []
unfolding pieces_of offsets_from
none-fields = refl

-- a jump and no statement have no field
pub fieldless : (s : Statement) → OneOf (2 ∷ 4 ∷ []) (tag_of the_type s) → fields_of (pieces_of s) ≡ []
unfolding pieces_of offsets_from
fieldless (Statement.TwoAddresses op q a b) k = absurd (miss (2 ∷ 4 ∷ []) 0 tt k)
fieldless (Statement.OneAddress op q a) k = absurd (miss (2 ∷ 4 ∷ []) 1 tt k)
fieldless (Statement.Jump q byte) k = refl
fieldless (Statement.AddressConstants n m v) k = absurd (miss (2 ∷ 4 ∷ []) 3 tt k)
fieldless Statement.NoBytes k = refl

-- they are what is left of the other three
pub fieldless_left : (s : Statement)
    → ((op : Operation) (q : ℕ) (a b : Operand) → s ≡ Statement.TwoAddresses op q a b → ⊥)
    → ((op : Operation) (q : ℕ) (a : Operand) → s ≡ Statement.OneAddress op q a → ⊥)
    → ((n m : ℕ) (v : Value) → s ≡ Statement.AddressConstants n m v → ⊥)
    → OneOf (2 ∷ 4 ∷ []) (tag_of the_type s)
fieldless_left (Statement.TwoAddresses op q a b) two one more = absurd (two op q a b refl)
fieldless_left (Statement.OneAddress op q a) two one more = absurd (one op q a refl)
fieldless_left (Statement.Jump q byte) two one more = inl refl
fieldless_left (Statement.AddressConstants n m v) two one more = absurd (more n m v refl)
fieldless_left Statement.NoBytes two one more = inr refl

-- SIZES AND COUNTS

pub two_size : (op : Operation) (q : ℕ) (a b : Operand) → length (text_of (pieces_of (Statement.TwoAddresses op q a b))) ≡ 2 + operand_size a + operand_size b
two_size op q a b =
    let t = ap length (two-text op q a b) in
    let n = length-append (text_of (operand_pieces a)) (text_of (operand_pieces b)) in
    t ∙ omega (arith, operand-size a, operand-size b)

pub one_size : (op : Operation) (q : ℕ) (a : Operand) → length (text_of (pieces_of (Statement.OneAddress op q a))) ≡ 2 + operand_size a
one_size op q a = ap length (one-text op q a) ∙ omega (arith, operand-size a)

pub constants_size_lem : (n m : ℕ) (v : Value) → length (text_of (pieces_of (Statement.AddressConstants n m v))) ≡ n * constant_size m
constants_size_lem n m v = ap length (addresses_text n m v) ∙ copied-size n (address_pieces m v) ∙ ap (λ k. n * k) (constant-size m v)

pub two-count : (op : Operation) (q : ℕ) (a b : Operand) → length (fields_of (pieces_of (Statement.TwoAddresses op q a b))) ≡ operand_count a + operand_count b
two-count op q a b =
    let t = ap length (two_fields op q a b) in
    let n = length-append (offsets_from 2 (operand_pieces a)) (offsets_from (2 + operand_size a) (operand_pieces b)) in
    t ∙ omega (arith, operand-count 2 a, operand-count (2 + operand_size a) b)

pub addresses_count : (n m : ℕ) (v : Value) → length (fields_of (pieces_of (Statement.AddressConstants n m v))) ≡ constant_count n m v
addresses_count n m v = ap length (addresses_fields n m v ∙ address_fields n m v 0) ∙ apart-length (constant_count n m v) 0

-- A TURN OF EACH LOOP

-- a copy has room where all have
pub copies_room : (n i m : ℕ) (v : Value) → i < n
    → length (text_of (copied (n - i) (address_pieces m v))) ≡ constant_size m + length (text_of (copied (n - (i + 1)) (address_pieces m v)))
copies_room n i m v h =
    let one : n - i - 1 ≡ n - (i + 1) = omega arith in
    ap length (copied_more (n - i) (address_pieces m v) (omega arith)) ∙ length-append (text_of (address_pieces m v)) (text_of (copied (n - i - 1) (address_pieces m v)))
    ∙ rw (constant-size m v, one)

-- a copy of any pieces laid, and those behind it
pub copies_behind : (m p : List ℕ) (at n w : ℕ) (ps : List Piece) → 0 < n → p ≡ sets m at (text_of ps) → length (text_of ps) ≡ w
    → sets m at (text_of (copied n ps)) ≡ sets p (at + w) (text_of (copied (n - 1) ps))
copies_behind m p at n w ps h e l = rw (copied_more n ps h, e, sym l) (sets_append m at (text_of ps) (text_of (copied (n - 1) ps)))

-- .. of an address constant, in a turn that has i behind it
pub copies_more : (l p : List ℕ) (at n i m : ℕ) (v : Value) → i < n → p ≡ sets l at (text_of (address_pieces m v))
    → sets l at (text_of (copied (n - i) (address_pieces m v))) ≡ sets p (at + constant_size m) (text_of (copied (n - (i + 1)) (address_pieces m v)))
copies_more l p at n i m v h e =
    let one : n - i - 1 ≡ n - (i + 1) = omega arith in
    copies_behind l p at (n - i) (constant_size m) (address_pieces m v) (omega arith) e (constant-size m v)
    ∙ ap (λ k. sets p (at + constant_size m) (text_of (copied k (address_pieces m v)))) one

pub copies_done : (m : List ℕ) (at n : ℕ) (ps : List Piece) → n ≤ 0 → sets m at (text_of (copied n ps)) ≡ m
copies_done m at n ps h = rw (copied_none n ps h)

-- an offset laid, and those behind it
pub apart_more : (m : List ℕ) (to i n : ℕ) → i < n
    → sets m (to + i) (two_apart (n - i) (2 * i)) ≡ sets (set m (to + i) (2 * i)) (to + (i + 1)) (two_apart (n - (i + 1)) (2 * (i + 1)))
unfolding two_apart
apart_more m to i n h =
    let e : n - i ≡ suc (n - (i + 1)) = omega arith in
    let f : to + (i + 1) ≡ suc (to + i) = omega arith in
    let g : 2 * (i + 1) ≡ 2 * i + 2 = omega arith in
    rw (e, f, g)

pub apart_done : (m : List ℕ) (to i n at : ℕ) → n ≤ i → sets m to (two_apart (n - i) at) ≡ m
unfolding two_apart
apart_done m to i n at h = let e : n - i ≡ 0 = omega arith in rw e
