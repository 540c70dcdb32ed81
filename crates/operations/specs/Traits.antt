-- R4.3 to R4.5, R3.2: what an operation is, all in one row, and what the row says by itself: refusals 12 and 14.
use Rattle.std.specs.Prelude.{Option, Some, None, ℕ, true, false}
use Rattle.values.specs.Tests.{pick}
use Rattle.values.specs.declared.Wanted.{Wanted}
use Rattle.values.specs.declared.Wanted.TheVariants.{Any, OnlyAbsolute, OnlyRelocatable}
use Rattle.operations.specs.declared.Operation.{Operation}
use Rattle.operations.specs.declared.Operation.TheVariants.{Unknown, Start, Equ, Org, Dc, Ds, Using, Drop, End, TwoLengths, OneLength, HalfBytes, HalfBytesOf, OneAddress, Branch, LoadAddress, BranchOn, Jump, JumpOn}
use Rattle.operations.specs.declared.traits.Naming.{Naming}
use Rattle.operations.specs.declared.traits.Naming.TheVariants.{Needed, Taken, Forbidden}
use Rattle.operations.specs.declared.traits.Role.{Role}
use Rattle.operations.specs.declared.traits.Role.TheVariants.{Starts, Equates, SetsCounter, Ends, Advances}
use Rattle.operations.specs.declared.traits.Lengths.TheVariants.{OnEach, OnOne, OnExactlyOne, OnNone}
use Rattle.operations.specs.declared.traits.Pattern.{Pattern}
use Rattle.operations.specs.declared.traits.Pattern.TheVariants.{Unreadable, StartTerm, Expression, MaybeExpression, Constant, Reserve, Pair, TwoAddresses, AddressAndCode, LoneAddress, Target}
use Rattle.operations.specs.declared.traits.Use.{Use}
use Rattle.operations.specs.declared.traits.Use.TheVariants.{Jumps, Registers, Nothing}
use Rattle.operations.specs.declared.traits.Rule.{Rule}
use Rattle.operations.specs.declared.traits.Rule.TheVariants.{Lengths, Length, Item, Register, Written, Given}
use Rattle.operations.specs.declared.traits.Opcode.{Opcode}
use Rattle.operations.specs.declared.traits.Opcode.TheVariants.{NoByte, ByTwoModes, ByOneMode, ByBranchMode, Fixed}
use Rattle.operations.specs.declared.traits.Traits.{Traits}

-- THE ROWS

-- R4.1: no operation: no operand is right for it
abbrev pub unknown : Traits
unknown = record {
  known = false;
  naming = Taken;
  role = Advances;
  pattern = Unreadable;
  first = Any;
  uses = Nothing;
  rule = Given 0;
  fixed = 0;
  opcode = NoByte;
}

-- R4.3: one of the assembler's own: whether it has a name, what it does to the counter, its operand, the kind wanted of its first expression, its use of it
abbrev pub own : Naming → Role → Pattern → Wanted → Use → Traits
own naming role pattern first uses = record {
  known = true;
  naming = naming;
  role = role;
  pattern = pattern;
  first = first;
  uses = uses;
  rule = Given 0;
  fixed = 0;
  opcode = NoByte;
}

-- R4.4, R9.5: an instruction with addresses: its operand, its Q, its operation byte; operation byte and Q are two bytes
abbrev pub instruction : Pattern → Rule → Opcode → Traits
instruction pattern rule opcode = record {
  known = true;
  naming = Taken;
  role = Advances;
  pattern = pattern;
  first = Any;
  uses = Nothing;
  rule = rule;
  fixed = 2;
  opcode = opcode;
}

-- R9.5, R11.8: a jump goes to a relocatable target and has three bytes, the first F2
abbrev pub jump : Pattern → Rule → Traits
jump pattern rule = record {
  known = true;
  naming = Taken;
  role = Advances;
  pattern = pattern;
  first = OnlyRelocatable;
  uses = Jumps;
  rule = rule;
  fixed = 3;
  opcode = Fixed 0xF2;
}

abbrev pub traits_of : Operation → Traits
traits_of Unknown = unknown
traits_of Start = own Taken Starts StartTerm Any Nothing
traits_of Equ = own Needed Equates Expression Any Nothing
traits_of Org = own Forbidden SetsCounter Expression OnlyRelocatable Nothing
traits_of Dc = own Taken Advances Constant Any Nothing
traits_of Ds = own Taken Advances Reserve Any Nothing
traits_of Using = own Forbidden Advances Pair Any Registers
traits_of Drop = own Forbidden Advances Expression OnlyAbsolute Registers
traits_of End = own Forbidden Ends MaybeExpression OnlyRelocatable Nothing
traits_of (TwoLengths low) = instruction (TwoAddresses OnEach) Lengths (ByTwoModes low)
traits_of (OneLength low) = instruction (TwoAddresses OnOne) Length (ByTwoModes low)
traits_of HalfBytes = instruction (TwoAddresses OnExactlyOne) Item (ByTwoModes 0x8)
traits_of (HalfBytesOf item) = instruction (TwoAddresses OnNone) (Given item) (ByTwoModes 0x8)
traits_of (OneAddress low) = instruction AddressAndCode Written (ByOneMode low)
traits_of (Branch low) = instruction AddressAndCode Written (ByBranchMode low)
traits_of LoadAddress = instruction AddressAndCode Register (ByBranchMode 0x2)
traits_of (BranchOn q) = instruction LoneAddress (Given q) (ByBranchMode 0x0)
traits_of Jump = jump Pair Written
traits_of (JumpOn q) = jump Target (Given q)

-- WHAT A ROW SAYS

abbrev pub role_of : Operation → Role
role_of o = (traits_of o).role

abbrev pub pattern_of : Operation → Pattern
pattern_of o = (traits_of o).pattern

abbrev pub first_wanted : Operation → Wanted
first_wanted o = (traits_of o).first

abbrev pub use_of : Operation → Use
use_of o = (traits_of o).uses

abbrev pub rule_of : Operation → Rule
rule_of o = (traits_of o).rule

abbrev pub fixed_size : Operation → ℕ
fixed_size o = (traits_of o).fixed

-- R4.1: 12, no operation, or one that is not known
abbrev pub operation_no : Operation → ℕ
operation_no o = pick (traits_of o).known 0 12

-- R3.2: 14, where a name is missing or may not stand
abbrev pub named_no : Naming → Option ℕ → ℕ
named_no Needed (Some name) = 0
named_no Needed None = 14
named_no Taken name = 0
named_no Forbidden (Some name) = 14
named_no Forbidden None = 0

abbrev pub name_no : Operation → Option ℕ → ℕ
name_no o name = named_no (traits_of o).naming name
