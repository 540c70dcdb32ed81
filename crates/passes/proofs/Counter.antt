-- How high the counter gets behind a card.
use Prim.Native.Nat.{ℕ, ◌+◌, ◌≤◌, ◌<◌}
use mathlib.Core.List.{List}
use mathlib.Core.Path.{◌≡◌, refl}
use native.Mathlib.Omega.{arith}
use Rattle.values.specs.declared.Value.{Value}
use Rattle.values.specs.Values.{amount_of, only_relocatable, with_relocatable}
use Rattle.names.specs.declared.Meaning.{Meaning}
use Rattle.names.specs.Names.{find}
use Rattle.forms.specs.declared.Shape.{Shape}
use Rattle.forms.specs.declared.Shape.TheVariants.{Nothing, StartAt, Expression, Pair, Target, TwoAddresses, AddressAndCode, LoneAddress, Data}
use Rattle.forms.specs.Shape.{shape_of, start_or}
use Rattle.forms.specs.Size.{size_of}
use Rattle.forms.proofs.Laws.{ShapeIn, shape_in}
use Rattle.statements.proofs.Laws.{lone-fits}
use Rattle.lines.specs.declared.Line.{Line}
use Rattle.lines.specs.declared.Reading.{Reading}
use Rattle.lines.specs.declared.Reading.TheVariants.{Comment, BadName, Statement}
use Rattle.lines.specs.Lines.{reading_of, operand_columns}
use Rattle.lines.proofs.Laws.{line_shape}
use Rattle.operations.specs.declared.traits.Role.{Role}
use Rattle.operations.specs.declared.traits.Role.TheVariants.{Starts, Equates, SetsCounter, Ends, Advances}
use Rattle.operations.specs.Traits.{role_of}
use Rattle.passes.specs.Cards.{value_at, counter_by, counter_after}
use Rattle.passes.specs.One.{State, reading_no, reading_step, one_no, step_one}
use Rattle.passes.proofs.Fine.{fine, one-zero}
use Rattle.std.specs.Prelude.{Option, Some, None, Result, Ok, Err}

-- what is not below 65535, nor below another number, is not below START's value, or else that number
start-most : (s : List ℕ) (l : Line) → reading_of s ≡ Statement l → (other most : ℕ) → 65535 ≤ most → other ≤ most → start_or l.shape other ≤ most
start-most s l e other most a b = rw (line_shape s l e) (go (shape_of l.operation (operand_columns s l)) (shape_in l.operation (operand_columns s l)))
  where
    go : (x : Result Shape ℕ) → ShapeIn (operand_columns s l) x → start_or x other ≤ most
    go (Err q) w = b
    go (Ok Nothing) w = b
    go (Ok (StartAt v)) w = omega arith
    go (Ok Expression) w = b
    go (Ok (Pair p)) w = b
    go (Ok Target) w = b
    go (Ok (TwoAddresses x y)) w = b
    go (Ok (AddressAndCode x p)) w = b
    go (Ok (LoneAddress x)) w = b
    go (Ok (Data d)) w = b

-- .. nor below a relocatable value, or else that number
value-most : (v : Option Value) → ((x : Value) → v ≡ Some x → amount_of x < 65536) → (other most : ℕ) → 65535 ≤ most → other ≤ most → with_relocatable (only_relocatable v) (λ n. n) other ≤ most
value-most (Some (Value.Absolute x)) f other most a b = b
value-most (Some (Value.Relocatable x)) f other most a b = omega (arith, f (Value.Relocatable x) refl)
value-most None f other most a b = b

-- .. nor below the counter behind the card, where it is not below the end of the card's bytes
pub counter-most : (look : ℕ → Option Meaning) (counter : ℕ) (s : List ℕ) (l : Line) → reading_of s ≡ Statement l
    → (most : ℕ) → 65535 ≤ most → counter + size_of l.operation l.shape ≤ most → counter_after look counter s l ≤ most
unfolding counter_after
counter-most look counter s l e most a b = go (role_of l.operation)
  where
    go : (r : Role) → counter_by r (value_at look counter s l) counter l ≤ most
    go Starts = start-most s l e counter most a (omega arith)
    go Equates = omega arith
    go SetsCounter = value-most (value_at look counter s l) (λ x. lone-fits look counter (operand_columns s l) l.shape x) counter most a (omega arith)
    go Ends = omega arith
    go Advances = b

-- a card that goes through leaves the counter at 65536 at the most
pub step-low : (st : State) (s : List ℕ) → one_no st s ≡ 0 → st.counter ≤ 65536 → (step_one st s).counter ≤ 65536
unfolding step_one
step-low st s e h = go (reading_of s) refl (one-zero st s e).2
  where
    go : (x : Reading) → reading_of s ≡ x → reading_no st s x ≡ 0 → (reading_step st s x).counter ≤ 65536
    go Comment q e = h
    go BadName q e = h
    go (Statement l) q e = counter-most (find st.names) st.counter s l q 65536 (omega arith) (fine st s l e).room
