-- The card and the record that belong together, and where a relocatable value starts in a text.
use Rattle.std.specs.Prelude.{◌+◌, ◌≤◌, ◌<◌, ◌∷◌, ◌++◌, ◌≡◌, ◌⊎◌}
use Rattle.theorems.specs.Logic.{ℕ, suc, List, [], List-as-Memᴰ, length, get_or}
use Rattle.theorems.specs.Types.{Relocatable, Value, Record, Piece, value}
use Rattle.encode.specs.Pieces.{text_of}
use Rattle.passes.specs.Two.{outset, card_pieces, record_of_pieces}
use Rattle.theorems.specs.Grow.{behind_two, look_in, counter_one}

-- the text of card n + 1, as pieces: plain bytes and values of two bytes
abbrev pub pieces_at : List (List ℕ) → ℕ → List Piece
pieces_at ss n = card_pieces (look_in ss) (behind_two (look_in ss) n outset ss) (get_or ss n [])

-- the record of card n + 1: its number, pass one's counter before it, the offsets and the text of its pieces
abbrev pub card_record : List (List ℕ) → ℕ → Record
card_record ss n = record_of_pieces (suc n) (counter_one ss n) (pieces_at ss n)

-- a relocatable value of two bytes starts at an offset: the pieces before it have so many bytes
pub record FieldAt (ps : List Piece) (offset : ℕ) : Type 0 where
  pub before : List Piece
  pub place : Relocatable
  pub behind : List Piece
  pub pieces : ps ≡ before ++ value (Value.Relocatable place) ∷ behind
  pub bytes : length (text_of before) ≡ offset

-- a place i is in no run of two bytes that starts at one of the offsets
abbrev pub Apart : ℕ → List ℕ → Type 0
Apart i offsets = (o : ℕ) → List-as-Memᴰ o offsets → (i < o) ⊎ (o + 2 ≤ i)
