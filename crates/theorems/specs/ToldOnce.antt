-- What it is to meet the contract of a public call: the whole reply, and every lent byte afterwards.
use Rattle.std.specs.Prelude.{◌≡◌}
use Rattle.theorems.specs.Logic.{ℕ, List, length}
use Rattle.load.specs.Load.{loading}
use Rattle.passes.specs.Assembly.{assembling}
use Rattle.print.specs.Print.{printed, where_room}
use Rattle.mersclund.specs.Packed.{packed_load, packed_assembled}

-- a reply to a load: the packed answer, the storage
pub record Loads (book : List ℕ) (displacement : ℕ) (storage : List ℕ) (reply : ℕ) (after : List ℕ) : Type 0 where
  pub answer : reply ≡ packed_load (loading book (record { 0 = displacement }) storage).answer
  pub stored : after ≡ (loading book (record { 0 = displacement }) storage).storage

-- a reply to an assembly: the packed answer, the work area, the output
pub record Assembles (width : ℕ) (source work out : List ℕ) (reply : ℕ) (work_after out_after : List ℕ) : Type 0 where
  pub answer : reply ≡ packed_assembled (assembling width source work out).answer
  pub worked : work_after ≡ (assembling width source work out).work
  pub written : out_after ≡ (assembling width source work out).out

-- a reply to printing: how many bytes are printed, the lent buffer
pub record Prints (input buffer : List ℕ) (reply : ℕ) (after : List ℕ) : Type 0 where
  pub answer : reply ≡ length (printed input)
  pub written : after ≡ where_room (printed input) buffer
