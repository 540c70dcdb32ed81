-- The types of the code that the theorems speak of.
pub use Rattle.values.specs.declared.Displacement.{Displacement}
pub use Rattle.values.specs.declared.Relocatable.{Relocatable}
pub use Rattle.values.specs.declared.Value.{Value}
pub use Rattle.values.specs.declared.Wanted.{Wanted}
pub use Rattle.terms.specs.declared.Term.{Term}
pub use Rattle.names.specs.declared.Meaning.{Meaning}
pub use Rattle.names.specs.declared.Name.{Name}
pub use Rattle.expressions.specs.declared.Kind.{Kind}
pub use Rattle.expressions.specs.declared.factors.Factor.{Factor}
pub use Rattle.expressions.specs.Form.{Read, Addend, Product}
pub use Rattle.operations.specs.declared.Operation.{Operation}
pub use Rattle.operations.specs.declared.traits.Naming.{Naming}
pub use Rattle.operations.specs.declared.traits.Pattern.{Pattern}
pub use Rattle.operations.specs.declared.traits.Role.{Role}
pub use Rattle.operations.specs.declared.traits.Rule.{Rule}
pub use Rattle.operations.specs.declared.traits.Traits.{Traits}
pub use Rattle.operations.specs.declared.traits.Use.{Use}
pub use Rattle.book.specs.Book.{Record, Book}
pub use Rattle.load.specs.declared.Stored.{Stored}
pub use Rattle.load.specs.declared.LoadError.{LoadError}
pub use Rattle.data.specs.declared.Data.{Data}
pub use Rattle.data.specs.declared.DataCard.{DataCard}
pub use Rattle.data.specs.declared.DataType.{DataType}
pub use Rattle.addresses.specs.declared.Address.{Address}
pub use Rattle.forms.specs.declared.Shape.{Shape}
pub use Rattle.operands.specs.declared.EvaluatedAddress.{EvaluatedAddress}
pub use Rattle.operands.specs.declared.Operands.{Operands}
pub use Rattle.places.specs.declared.Bases.{Bases}
pub use Rattle.places.specs.declared.Operand.{Operand}
pub use Rattle.statements.specs.declared.Statement.{Statement}
pub use Rattle.lines.specs.declared.Line.{Line}
pub use Rattle.lines.specs.declared.Reading.{Reading}
pub use Rattle.encode.specs.Pieces.{Piece}
pub use Rattle.encode.specs.Pieces.Piece.{plain, value}
pub use Rattle.passes.specs.declared.Assembled.{Assembled}
pub use Rattle.passes.specs.declared.Course.{Course}
pub use Rattle.passes.specs.declared.Phase.{Phase}
pub use Rattle.passes.specs.One.{State, Passed}
pub use Rattle.passes.specs.One.Passed.{through, stopped}
pub use Rattle.passes.specs.Two.{Checked}
pub use Rattle.passes.specs.Two.Checked.{clean, bad}
pub use Rattle.passes.specs.declared.Refused.{Refused}
pub use Rattle.passes.specs.Assembly.{Translated}
pub use Rattle.passes.specs.Assembly.Translated.{made, refused}
pub use Rattle.expressions.specs.declared.Fault.{Fault}
pub use Rattle.values.specs.declared.refusals.Refusal.{Refusal}
pub use Rattle.values.specs.declared.Absolute.{Absolute}
pub use Rattle.book.specs.declared.Broken.{Broken}
