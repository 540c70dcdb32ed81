-- What callers cite of a line: its operand lies inside the columns, its name's number has six bytes, and its shape is its operation's.
use Prim.{Unit, tt}
use Prim.Native.Nat.{ℕ, ◌≤◌, ◌<◌, ◌^◌}
use mathlib.Core.List.{List}
use mathlib.Core.Bool.{Bool, true, false}
use mathlib.Core.Path.{◌≡◌, sym, ◌∙◌, subst}
use lib.ListN.{length}
use Rattle.letters.specs.Text.{stands}
use Rattle.values.specs.Tests.{pick}
use Rattle.values.proofs.Laws.{clash}
use Rattle.terms.specs.Names.{name_at}
use Rattle.terms.proofs.Within.{NameWithin, name-within}
use Rattle.cards.specs.declared.Fields.{Fields}
use Rattle.cards.specs.declared.Card.{Card}
use Rattle.cards.specs.declared.Card.TheVariants.{Comment as CardComment, BadName as CardBadName, Statement as CardStatement}
use Rattle.cards.specs.Fields.{blank_at, fields_behind, name_ends, named_card, card_of}
use Rattle.cards.proofs.Laws.{Ordered, CardWithin, card-within}
use Rattle.forms.specs.Shape.{shape_of}
use Rattle.lines.specs.declared.Line.{Line}
use Rattle.lines.specs.declared.Reading.{Reading}
use Rattle.lines.specs.declared.Reading.TheVariants.{Comment, BadName, Statement}
use Rattle.lines.specs.Lines.{line_of, reading_from, reading_of, operand_columns}
use Rattle.std.specs.Prelude.{Some, None, Result, Ok, Err}

module _ (s : List ℕ) where
  pub record LineWithin (l : Line) : Type 0 where
    pub operand : l.operand ≤ l.end
    pub end : l.end ≤ length s
    pub name : (name : ℕ) → l.name ≡ Some name → name < 2 ^ 48

  abbrev pub ReadingWithin : Reading → Type 0
  ReadingWithin Comment = Unit {0}
  ReadingWithin BadName = Unit {0}
  ReadingWithin (Statement l) = LineWithin l

  abbrev NameBelow : Card → Type 0
  NameBelow CardComment = Unit {0}
  NameBelow CardBadName = Unit {0}
  NameBelow (CardStatement f) = (name : ℕ) → f.name ≡ Some name → name < 2 ^ 48

  name_below : NameBelow (card_of s)
  unfolding card_of fields_behind
  name_below = go (stands "*" s 0) (blank_at s 0)
    where
      named : (n : Result (ℕ × ℕ) ℕ) → NameWithin s 0 n → NameBelow (named_card s n)
      named (Ok (number, next)) w = ends (name_ends s next)
        where
          ends : (x : Bool) → NameBelow (pick x (CardStatement (fields_behind (Some number) s next)) CardBadName)
          ends true = λ name e. let same : name ≡ number = cc in rw same w.2
          ends false = tt
      named (Err place) w = tt

      go : (x y : Bool) → NameBelow (pick x CardComment (pick y (CardStatement (fields_behind None s 0)) (named_card s (name_at s 0))))
      go true y = tt
      go false true = λ name e. clash (cc)
      go false false = named (name_at s 0) (name-within s 0)

  pub fields_within : (c : Card) (f : Fields) → c ≡ card_of s → c ≡ CardStatement f → (f.operand ≤ f.end) × (f.end ≤ length s)
  fields_within c f e g =
      let w : Ordered s f = subst (CardWithin s) (sym e ∙ g) (card-within s) in
      (w.operand, w.end)

  pub reading_within : ReadingWithin (reading_of s)
  unfolding reading_of line_of
  reading_within = go (card_of s) (card-within s) name_below
    where
      go : (c : Card) → CardWithin s c → NameBelow c → ReadingWithin (reading_from s c)
      go CardComment w n = tt
      go CardBadName w n = tt
      go (CardStatement f) w n = record { operand = w.operand; end = w.end; name = n }

  pub line-within : (l : Line) → reading_of s ≡ Statement l → LineWithin l
  line-within l e = subst ReadingWithin e reading_within

  -- the shape of a line is that of its operation's operand
  pub line_shape : (l : Line) → reading_of s ≡ Statement l → l.shape ≡ shape_of l.operation (operand_columns s l)
  unfolding reading_of line_of
  line_shape l e = go (card_of s) e
    where
      go : (c : Card) → reading_from s c ≡ Statement l → l.shape ≡ shape_of l.operation (operand_columns s l)
      go CardComment e = clash (cc)
      go CardBadName e = clash (cc)
      go (CardStatement f) e = let same : l ≡ line_of s f = cc in rw same
