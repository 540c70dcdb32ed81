-- How long the parts of a record are that a reader gave.
use Prim.Native.Nat.{ℕ}
use mathlib.Core.List.{List}
use mathlib.Core.Path.{◌≡◌}
use lib.ListN.{length}
use Rattle.values.proofs.Laws.{part_length}
use Rattle.book.specs.declared.Place.{Place}
use Rattle.book.specs.Reading.{record_there, Sound}

module _ (s : List ℕ) (p : Place) (ok : Sound s p) where
  pub fields-length : length (record_there s p).fields ≡ p.count
  fields-length = part_length s p.fields p.count ok.fields

  pub text-length : length (record_there s p).text ≡ p.size
  text-length = part_length s p.text p.size ok.text
