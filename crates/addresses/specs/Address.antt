-- R9.1 to R9.4: an address at a position, from the columns alone. One that fails says the first position at which it could not go on.
use Rattle.std.specs.Prelude.{ℕ, ◌+◌, List, Option, Some, None, Result, Ok, Err}
use Rattle.letters.specs.Text.{stands}
use Rattle.values.specs.Tests.{pick}
use Rattle.expressions.specs.Form.{form_of, expression_at}
use Rattle.addresses.specs.declared.Address.{Address}
use Rattle.addresses.specs.declared.Allowed.{Allowed}
use Rattle.addresses.specs.declared.Allowed.TheVariants.{MayHaveLength, HasLength, NoLength, OnlyRegister}

-- an address with E at a position, its length and its register
abbrev pub address : ℕ → Option ℕ → Option ℕ → Address
address at l r = record { at = at; length = l; register = r }

-- reading on behind an expression
abbrev pub behind : Result ℕ ℕ → (ℕ → Result (Address × ℕ) ℕ) → Result (Address × ℕ) ℕ
behind (Ok q) on = on q
behind (Err q) on = Err q

-- `)`, which closes the items of an address
unfoldable pub closed : List ℕ → ℕ → Address → Result (Address × ℕ) ℕ
closed s q a = pick (stands ")" s q) (Ok (a, q + 1)) (Err q)

-- `R)`
unfoldable pub register_at : List ℕ → ℕ → Option ℕ → ℕ → Result (Address × ℕ) ℕ
register_at s at l p = behind (form_of (expression_at s p)) (λ q. closed s q (address at l (Some p)))

-- behind the L at p: `,R)` or `)`
unfoldable pub behind_length : List ℕ → ℕ → ℕ → ℕ → Result (Address × ℕ) ℕ
behind_length s at p q = pick (stands "," s q) (register_at s at (Some p) (q + 1)) (closed s q (address at (Some p) None))

-- `L)` or `L,R)`
unfoldable pub length_at : List ℕ → ℕ → ℕ → Result (Address × ℕ) ℕ
length_at s at p = behind (form_of (expression_at s p)) (λ q. behind_length s at p q)

-- `,R)`, or else what may stand instead
unfoldable pub or_register : List ℕ → ℕ → ℕ → Result (Address × ℕ) ℕ → Result (Address × ℕ) ℕ
or_register s at p other = pick (stands "," s p) (register_at s at None (p + 1)) other

-- R9.3: behind the opening parenthesis: a lone item is a length, or refused, or a register
abbrev pub items_at : Allowed → List ℕ → ℕ → ℕ → Result (Address × ℕ) ℕ
items_at MayHaveLength s at p = or_register s at p (length_at s at p)
items_at HasLength s at p = length_at s at p
items_at NoLength s at p = or_register s at p (Err p)
items_at OnlyRegister s at p = or_register s at p (register_at s at None p)

-- E alone, up to q
abbrev pub plain : Allowed → ℕ → ℕ → Result (Address × ℕ) ℕ
plain MayHaveLength at q = Ok (address at None None, q)
plain HasLength at q = Err q
plain NoLength at q = Ok (address at None None, q)
plain OnlyRegister at q = Ok (address at None None, q)

unfoldable pub behind_address : Allowed → List ℕ → ℕ → ℕ → Result (Address × ℕ) ℕ
behind_address w s at q = pick (stands "(" s q) (items_at w s at (q + 1)) (plain w at q)

-- R9.1: the address at a position: E(L), E(L,R), E(,R) or E of two, where the length may, must or must not be there; E, E(R) or E(,R) of one
unfoldable pub address_at : Allowed → List ℕ → ℕ → Result (Address × ℕ) ℕ
address_at w s at = behind (form_of (expression_at s at)) (λ q. behind_address w s at q)
