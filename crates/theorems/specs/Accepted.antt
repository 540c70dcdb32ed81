-- What each pass says of each card, and the first card that it refuses.
use Rattle.std.specs.Prelude.{◌+◌, ◌<◌, ◌≡◌}
use Rattle.theorems.specs.Logic.{ℕ, List, [], length, get_or, Option, Result, Ok}
use Rattle.theorems.specs.Types.{Meaning, Course, State, Assembled, Refused}
use Rattle.passes.specs.One.{fresh, one_no}
use Rattle.passes.specs.Two.{two_no}
use Rattle.theorems.specs.Grow.{behind_one, behind_two}

-- the answer of an accepted assembly: the book's length and the count of names
abbrev pub made_answer : ℕ → ℕ → Result Assembled Refused
made_answer bytes names = Ok (record { length = bytes; names = names })

-- the number that pass one has for the card at place k, in the state that it has before it; 0 where it lets the card through
abbrev pub one_at : State → List (List ℕ) → ℕ → ℕ
one_at st ss k = one_no (behind_one k st ss) (get_or ss k [])

-- .. and pass two
abbrev pub two_at : (ℕ → Option Meaning) → Course → List (List ℕ) → ℕ → ℕ
two_at look c ss k = two_no look (behind_two look k c ss) (get_or ss k [])

-- where pass one stands behind all cards
abbrev pub end_one : List (List ℕ) → State
end_one ss = behind_one (length ss) fresh ss

-- of so many cards none is refused
abbrev pub NoneRefused : (ℕ → ℕ) → ℕ → Type 0
NoneRefused number_at cards = (k : ℕ) → k < cards → number_at k ≡ 0

-- of so many cards, numbered from `from` on, the first that is refused, and its number
pub record FirstRefused (from : ℕ) (number_at : ℕ → ℕ) (cards number card : ℕ) : Type 0 where
  pub place : ℕ
  pub inside : place < cards
  pub is : card ≡ from + place
  pub here : number_at place ≡ number
  pub refuses : number ≡ 0 → ⊥
  pub others : NoneRefused number_at place
