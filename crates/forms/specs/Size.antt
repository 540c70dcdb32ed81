-- R9.5, R9.6, R8.14: the bytes of a card, by its form.
use Rattle.std.specs.Prelude.{ℕ, ◌+◌, Option, Some, None, Result, Ok, Err}
use Rattle.operations.specs.declared.Operation.{Operation}
use Rattle.operations.specs.Traits.{fixed_size}
use Rattle.data.specs.Sizes.{data_size}
use Rattle.forms.specs.declared.Shape.{Shape}
use Rattle.forms.specs.declared.Shape.TheVariants.{Nothing, StartAt, Expression, Pair, Target, TwoAddresses, AddressAndCode, LoneAddress, Data}

-- R9.6: the bytes of an address, by its register
abbrev pub address_size : Option ℕ → ℕ
address_size None = 2
address_size (Some p) = 1

-- R9.5, R8.14: what is fixed of the operation, and its addresses; all copies of DC and DS; nothing for the other cards
abbrev pub size_of : Operation → Result Shape ℕ → ℕ
size_of op (Err q) = 0
size_of op (Ok Nothing) = 0
size_of op (Ok (StartAt v)) = 0
size_of op (Ok Expression) = 0
size_of op (Ok (Pair p)) = fixed_size op
size_of op (Ok Target) = fixed_size op
size_of op (Ok (TwoAddresses a b)) = fixed_size op + address_size a.register + address_size b.register
size_of op (Ok (AddressAndCode a p)) = fixed_size op + address_size a.register
size_of op (Ok (LoneAddress a)) = fixed_size op + address_size a.register
size_of op (Ok (Data d)) = data_size d
