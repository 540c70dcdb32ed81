-- The text of a card, by its form.
use Rattle.theorems.specs.Logic.{ℕ, List, Result}
use Rattle.theorems.specs.Types.{Operation, DataCard, Shape, Reading}
use Rattle.data.specs.declared.DataCard.TheVariants.{Constant, Reserve}
use Rattle.data.specs.Sizes.{data_size}
use Rattle.forms.specs.Shape.{of_data}
use Rattle.forms.specs.Size.{size_of}
use Rattle.lines.specs.declared.Reading.TheVariants.{Comment, BadName, Statement}
use Rattle.lines.specs.Lines.{reading_of}

-- the bytes that a card makes: those of its form, but DS reserves its bytes and makes none
abbrev pub data_makes : DataCard → ℕ → ℕ
data_makes Constant size = size
data_makes Reserve size = 0

abbrev pub text_size : Operation → Result Shape ℕ → ℕ
text_size op x = of_data x (λ d. data_makes d.card (data_size d)) (size_of op x)

-- how many bytes a card makes, told by its columns alone
abbrev pub reading_makes : Reading → ℕ
reading_makes Comment = 0
reading_makes BadName = 0
reading_makes (Statement l) = text_size l.operation l.shape

unfoldable pub makes : List ℕ → ℕ
makes s = reading_makes (reading_of s)
