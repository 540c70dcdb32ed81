-- R17.2, R17.6: the listed fields of a record's text, moved by a displacement.
use Rattle.std.specs.Prelude.{ℕ, List, [], ◌∷◌, Bool, true, false, Option, Some, None}
use Rattle.std.proofs.lemmas.List.Edits.{sets}
use Rattle.values.specs.Tests.{either}
use Rattle.values.specs.Values.{moved_by}
use Rattle.values.specs.Words.{word, two_bytes}
use Rattle.values.specs.declared.Displacement.{Displacement}
use Rattle.values.specs.declared.Relocatable.{Relocatable}
use Rattle.book.specs.Book.{Record}

-- the value in a text at an offset
abbrev pub field_in : List ℕ → ℕ → Relocatable
field_in text o = record { 0 = word text o }

-- a text t with a moved value at an offset; one that is over is refused before it comes to that
abbrev pub with_field : Option Relocatable → ℕ → List ℕ → List ℕ
with_field (Some v) o t = sets t o (two_bytes v.0)
with_field None o t = t

-- R17.2: a text t in which each listed field gets its value in the text as it was, `was`, moved by d
unfoldable pub moved_in : Displacement → List ℕ → List ℕ → List ℕ → List ℕ
moved_in d was [] t = t
moved_in d was (o ∷ os) t = moved_in d was os (with_field (moved_by d (field_in was o)) o t)

-- R17.2: a record's text with its listed fields moved by d
abbrev pub moved_text : Displacement → Record → List ℕ
moved_text d r = moved_in d r.text r.fields r.text

abbrev pub is_over : Option Relocatable → Bool
is_over (Some v) = false
is_over None = true

-- R17.6: 52, a listed field, moved by d, is over
unfoldable pub over_in : Displacement → List ℕ → List ℕ → Bool
over_in d text [] = false
over_in d text (o ∷ os) = either (is_over (moved_by d (field_in text o))) (over_in d text os)

abbrev pub over_field : Displacement → Record → Bool
over_field d r = over_in d r.text r.fields
