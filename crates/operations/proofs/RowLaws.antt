-- What holds of every row of the traits.
use Prim.Native.Nat.{◌≤◌}
use native.Mathlib.Omega.{arith}
use Rattle.operations.specs.declared.Operation.{Operation}
use Rattle.operations.specs.declared.Operation.TheVariants.{Unknown, Start, Equ, Org, Dc, Ds, Using, Drop, End, TwoLengths, OneLength, HalfBytes, HalfBytesOf, OneAddress, Branch, LoadAddress, BranchOn, Jump, JumpOn}
use Rattle.operations.specs.Traits.{fixed_size}

pub fixed_small : (o : Operation) → fixed_size o ≤ 3
fixed_small Unknown = omega arith
fixed_small Start = omega arith
fixed_small Equ = omega arith
fixed_small Org = omega arith
fixed_small Dc = omega arith
fixed_small Ds = omega arith
fixed_small Using = omega arith
fixed_small Drop = omega arith
fixed_small End = omega arith
fixed_small (TwoLengths low) = omega arith
fixed_small (OneLength low) = omega arith
fixed_small HalfBytes = omega arith
fixed_small (HalfBytesOf item) = omega arith
fixed_small (OneAddress low) = omega arith
fixed_small (Branch low) = omega arith
fixed_small LoadAddress = omega arith
fixed_small (BranchOn q) = omega arith
fixed_small Jump = omega arith
fixed_small (JumpOn q) = omega arith
