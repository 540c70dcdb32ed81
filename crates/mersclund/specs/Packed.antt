-- R15.7, R17.10: the packed answers: bits 63 to 56 the number of refusal, 0 where the call was accepted; a refusal's card in bits 15 to 0.
use Rattle.std.specs.Prelude.{ℕ, ◌+◌, ◌*◌, ◌^◌, Option, Some, None, Result, Ok, Err}
use Rattle.passes.specs.declared.Assembled.{Assembled}
use Rattle.passes.specs.declared.Refused.{Refused}
use Rattle.load.specs.declared.Stored.{Stored}
use Rattle.load.specs.declared.LoadError.{LoadError}
use Rattle.load.specs.declared.LoadError.TheVariants.{Broken, Outside, Over}
use Rattle.values.specs.declared.Relocatable.{Relocatable}

-- a number of refusal with its card
abbrev pub packed_refusal : ℕ → ℕ → ℕ
packed_refusal number card = number * 2 ^ 56 + card

-- R17.10: bit 48 where there is an entry, and then the entry in bits 47 to 32
abbrev pub packed_entry : Option Relocatable → ℕ
packed_entry None = 0
packed_entry (Some e) = 2 ^ 48 + e.0 * 2 ^ 32

-- R17.10: accepted: the bytes stored, at most 1,024,000, in bits 31 to 0, and the entry
abbrev pub packed_load : Result Stored LoadError → ℕ
packed_load (Ok s) = s.bytes + packed_entry s.entry
packed_load (Err Broken) = packed_refusal 50 0
packed_load (Err (Outside card)) = packed_refusal 51 card
packed_load (Err (Over card)) = packed_refusal 52 card

-- R15.7: accepted: the book's length in bits 31 to 0, the count of names, at most 512, in bits 47 to 32
abbrev pub packed_assembled : Result Assembled Refused → ℕ
packed_assembled (Ok a) = a.length + a.names * 2 ^ 32
packed_assembled (Err r) = packed_refusal r.number r.card
