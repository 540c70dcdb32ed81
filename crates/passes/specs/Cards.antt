-- R7, R3.6: what a card does to the counter, in both passes; and what its name stands for.
use Rattle.std.specs.Prelude.{Option, Some, ℕ, ◌+◌, ◌-◌, List, Result}
use Rattle.values.specs.Values.{only_relocatable, with_relocatable}
use Rattle.names.specs.declared.Meaning.{Meaning}
use Rattle.operations.specs.declared.Operation.{Operation}
use Rattle.operations.specs.declared.traits.Role.{Role}
use Rattle.operations.specs.declared.traits.Role.TheVariants.{Starts, Equates, SetsCounter, Ends, Advances}
use Rattle.operations.specs.Traits.{role_of}
use Rattle.forms.specs.declared.Shape.{Shape}
use Rattle.forms.specs.Shape.{of_data, start_or}
use Rattle.forms.specs.Size.{size_of}
use Rattle.operands.specs.declared.Operands.{Operands}
use Rattle.operands.specs.Operands.{operands_of}
use Rattle.statements.specs.Statements.{lone_value}
use Rattle.lines.specs.declared.Line.{Line}
use Rattle.lines.specs.Lines.{operand_columns}
use Rattle.values.specs.declared.Value.{Value}

-- what the expressions of a line come to: the line of a card with columns s, what the names say, the counter at the start of the card
abbrev pub operands_at : (ℕ → Option Meaning) → ℕ → List ℕ → Line → Operands
operands_at look counter s l = operands_of look counter (operand_columns s l) l.shape

-- the value of its only expression, if it has one
abbrev pub value_at : (ℕ → Option Meaning) → ℕ → List ℕ → Line → Option Value
value_at look counter s l = lone_value (operands_at look counter s l)

-- R7.1, R7.4, R7.6: THE COUNTER behind a card whose only expression came to v: START's operand; ORG's operand; else behind the bytes of the card
abbrev pub counter_by : Role → Option Value → ℕ → Line → ℕ
counter_by Starts v counter l = start_or l.shape counter
counter_by Equates v counter l = counter
counter_by SetsCounter v counter l = with_relocatable (only_relocatable v) (λ n. n) counter
counter_by Ends v counter l = counter
counter_by Advances v counter l = counter + size_of l.operation l.shape

unfoldable pub counter_after : (ℕ → Option Meaning) → ℕ → List ℕ → Line → ℕ
counter_after look counter s l = counter_by (role_of l.operation) (value_at look counter s l) counter l

-- THE NAME

-- R8.15, R9.10: what a name names: the last byte of the first copy of DC or DS; the first byte of an instruction
abbrev pub place_named : ℕ → Result Shape ℕ → ℕ
place_named counter x = of_data x (λ d. counter + d.length - 1) counter

-- R7.4, R7.5: START's name is the start; EQU's has its operand's value and kind
abbrev pub name_value_by : Role → Option Value → ℕ → Line → Option Value
name_value_by Starts v counter l = Some (Value.Relocatable (record { 0 = start_or l.shape counter }))
name_value_by Equates v counter l = v
name_value_by SetsCounter v counter l = Some (Value.Relocatable (record { 0 = counter }))
name_value_by Ends v counter l = Some (Value.Relocatable (record { 0 = counter }))
name_value_by Advances v counter l = Some (Value.Relocatable (record { 0 = place_named counter l.shape }))

-- R3.6: the value of a line's name, before any limit
unfoldable pub name_value : (ℕ → Option Meaning) → ℕ → List ℕ → Line → Option Value
name_value look counter s l = name_value_by (role_of l.operation) (value_at look counter s l) counter l

-- R8.15, R9.10: m of DC and DS, the bytes of an instruction
abbrev pub field_length : Operation → Result Shape ℕ → ℕ
field_length op x = of_data x (λ d. d.length) (size_of op x)

-- R7.4, R7.5: a name's length, 1 of START and EQU
abbrev pub name_length_by : Role → Operation → Result Shape ℕ → ℕ
name_length_by Starts op x = 1
name_length_by Equates op x = 1
name_length_by SetsCounter op x = 1
name_length_by Ends op x = 1
name_length_by Advances op x = field_length op x

abbrev pub name_length : Operation → Result Shape ℕ → ℕ
name_length op x = name_length_by (role_of op) op x
