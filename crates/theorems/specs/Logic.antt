-- The words that the theorems are said in: numbers, lists, truth, and the laws of each.
pub use Prim.{Unit, tt}
pub use Rattle.std.specs.Prelude.{suc, zero, ℕ, refl, Bool, false, not, true, eqb, leb, ltb, drop, get_or, length, replicate, set, take}
pub use Rattle.std.proofs.Common.{ap, subst, sym, inl, inr, add-zero, mul-add, mul-one, mul-zero, arith, length-append, length-drop, length-set, drop_at, drop-set-lt, get_or-set_other, get_or-set_same, eqb-true, le-leb, le-ltb, leb-false, leb-true, lt-ltb, ltb-false, ltb-true}
pub use Rattle.std.proofs.Math.Path.{fun_ext}
pub use Rattle.std.specs.Prelude.{Option, None, Some, Result, Ok, Err}
pub use mathlib.Core.List.Memᴰ.{cases_cons as List·Memᴰ·cases-cons}
pub use mathlib.Core.List.Memᴰ.{cast as Memᴰ·cast}
pub use mathlib.Core.List.Memᴰ.{map as Memᴰ·map}
pub use mathlib.Core.List.Memᴰ.{not-nil as List·Memᴰ·not-nil}
pub use mathlib.Core.List.{List, Memᴰ as List-as-Memᴰ, [], append_assoc, map, map-append}
pub use mathlib.Core.List.Memᴰ.{head as List·Memᴰ·head}
pub use mathlib.Core.List.Memᴰ.{tail as List·Memᴰ·tail}
pub use Rattle.std.proofs.Math.ListN.{get_or-append as List·getD-append}
pub use Rattle.std.proofs.lemmas.List.{get_or-replicate, length-map, length-replicate}
pub use Rattle.std.proofs.Math.Seq.{length-sets, take-append_seam}
pub use Rattle.std.proofs.lemmas.List.Edits.{sets, sets-eq}
pub use Rattle.std.proofs.lemmas.Bool.{eqb-false, lt-leb}
