-- Laws of pieces: text and fields of a list in two parts, of plain bytes, of copies; how many fields a text can have.
use Prim.Native.Nat.{ℕ, zero, suc, ◌+◌, ◌-◌, ◌*◌, ◌≤◌, ◌<◌}
use mathlib.Core.List.{List, [], ◌∷◌, ◌++◌, map, append_assoc}
use mathlib.Core.Path.{◌≡◌, refl, sym, ap, ◌∙◌}
use native.Mathlib.Nat.{not-suc-le-zero, suc-mul, add-zero}
use native.Mathlib.Numerals.{sub-one}
use native.Mathlib.Omega.{arith}
use lib.ListN.{length, length-append}
use Rattle.values.specs.declared.Value.TheVariants.{Absolute, Relocatable}
use Rattle.encode.specs.Pieces.{Piece, piece_text, text_of, piece_size, piece_field, offsets_from, copied}
use Rattle.encode.specs.Pieces.Piece.{plain, value}

-- IN TWO PARTS

pub text_append : (ps qs : List Piece) → text_of (ps ++ qs) ≡ text_of ps ++ text_of qs
unfolding text_of
text_append [] qs = refl
text_append (p ∷ ps) qs = rw (text_append ps qs) (sym (append_assoc (piece_text p) (text_of ps) (text_of qs)))

pub piece_size_lem : (p : Piece) → length (piece_text p) ≡ piece_size p
piece_size_lem (plain b) = refl
piece_size_lem (value v) = refl

-- what stands behind a piece's field
field_append : (at : ℕ) (p : Piece) (os us : List ℕ) → piece_field at p (os ++ us) ≡ piece_field at p os ++ us
field_append at (plain b) os us = refl
field_append at (value (Absolute a)) os us = refl
field_append at (value (Relocatable a)) os us = refl

pub fields_append : (at : ℕ) (ps qs : List Piece) → offsets_from at (ps ++ qs) ≡ offsets_from at ps ++ offsets_from (at + length (text_of ps)) qs
unfolding offsets_from text_of
fields_append at [] qs = rw add-zero
fields_append at (p ∷ ps) qs =
    let n = length-append (piece_text p) (text_of ps) in
    let e : at + piece_size p + length (text_of ps) ≡ at + length (piece_text p ++ text_of ps) = omega (arith, piece_size_lem p) in
    rw (fields_append (at + piece_size p) ps qs, e)
    (field_append at p (offsets_from (at + piece_size p) ps) (offsets_from (at + length (piece_text p ++ text_of ps)) qs))

-- PLAIN BYTES

pub plain-text : (bs : List ℕ) → text_of (map plain bs) ≡ bs
unfolding text_of
plain-text [] = refl
plain-text (b ∷ bs) = ap (λ l. b ∷ l) (plain-text bs)

pub plain-fields : (at : ℕ) (bs : List ℕ) → offsets_from at (map plain bs) ≡ []
unfolding offsets_from
plain-fields at [] = refl
plain-fields at (b ∷ bs) = plain-fields (at + 1) bs

-- HOW MANY

-- every piece has a byte
pub text-none : (ps : List Piece) → length (text_of ps) ≡ 0 → ps ≡ []
unfolding text_of
text-none [] h = refl
text-none (plain b ∷ ps) h = absurd (omega arith)
text-none (value v ∷ ps) h = absurd (omega arith)

-- a field has two bytes
pub fields_half : (at : ℕ) (ps : List Piece) → 2 * length (offsets_from at ps) ≤ length (text_of ps)
unfolding offsets_from text_of
fields_half at [] = omega arith
fields_half at (plain b ∷ ps) = let h = fields_half (at + 1) ps in omega arith
fields_half at (value (Absolute a) ∷ ps) = let h = fields_half (at + 2) ps in omega arith
fields_half at (value (Relocatable a) ∷ ps) = let h = fields_half (at + 2) ps in omega arith

-- COPIES

pub copied_more : (n : ℕ) (ps : List Piece) → 0 < n → text_of (copied n ps) ≡ text_of ps ++ text_of (copied (n - 1) ps)
unfolding copied
copied_more zero ps h = absurd (not-suc-le-zero h)
copied_more (suc n) ps h = rw sub-one (text_append ps (copied n ps))

pub copied_none : (n : ℕ) (ps : List Piece) → n ≤ 0 → text_of (copied n ps) ≡ []
unfolding copied text_of
copied_none zero ps h = refl
copied_none (suc n) ps h = absurd (not-suc-le-zero h)

pub copied-size : (n : ℕ) (ps : List Piece) → length (text_of (copied n ps)) ≡ n * length (text_of ps)
unfolding copied text_of
copied-size zero ps = omega arith
copied-size (suc n) ps =
    let r = copied-size n ps in
    let m : suc n * length (text_of ps) ≡ n * length (text_of ps) + length (text_of ps) = suc-mul n (length (text_of ps)) in
    let a = ap length (text_append ps (copied n ps)) ∙ length-append (text_of ps) (text_of (copied n ps)) in
    omega arith
