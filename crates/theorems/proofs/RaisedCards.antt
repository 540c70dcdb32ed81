-- One card, over names and a counter raised by d: what it does to the counter, to the names, to the bases, and its pieces.
use Rattle.std.specs.Prelude.{◌+◌, ◌-◌, ◌∷◌, ◌≡◌}
use Rattle.std.proofs.Common.{◌∙◌}
use Rattle.theorems.specs.Logic.{ℕ, List, [], map, refl, sym, ap, arith, Option, None, Some, Result, Ok, Err}
use Rattle.theorems.specs.Types.{Wanted, Name, Operation, Role, DataCard, DataType, Data, Address, Shape, Operands, Bases, Line, Addend, Read, Piece, plain}
use Rattle.values.specs.Values.{only_relocatable, with_relocatable}
use Rattle.values.proofs.Numbers.{lower-zero}
use Rattle.terms.specs.Terms.{term_at}
use Rattle.names.specs.Names.{find}
use Rattle.names.specs.Raised.{raised_name}
use Rattle.expressions.specs.Form.{Placed, expression_at}
use Rattle.expressions.specs.Value.{evaluated, refusal_for}
use Rattle.expressions.proofs.Laws.{accepted}
use Rattle.operations.specs.Traits.{first_wanted, role_of}
use Rattle.data.specs.Sizes.{data_no_by, data_no}
use Rattle.data.specs.Text.{constant_text}
use Rattle.data.proofs.Fine.{constant-fine, reserve-fine}
use Rattle.operands.specs.Operands.{item_of, address_of, by_type, by_card, operands_of}
use Rattle.operands.specs.Kinds.{item_no, address_no, constant_wanted, expressions_no}
use Rattle.statements.specs.Statements.{statement_from, bases_after, lone_value}
use Rattle.encode.specs.Pieces.{pieces_of}
use Rattle.lines.specs.Lines.{operand_columns}
use Rattle.passes.specs.Cards.{operands_at, counter_by, counter_after, place_named, name_value_by, name_value}
use Rattle.passes.specs.One.{again_no, early_by, early_no, sizes_no}
use Rattle.passes.specs.Two.{data_pieces, line_pieces}
use Rattle.theorems.specs.Raised.{raised_maybe, raised_evaluated, raised_item, raised_address, raised_operands, raised_bases, raised_piece}
use Rattle.theorems.proofs.Lines.{of_data_lem}
use Rattle.theorems.proofs.Raising.{expression-raised, implied_raised}
use Rattle.theorems.proofs.RaisedStatements.{lone-raised, bases_raised, pieces-raised}
use Rattle.values.specs.declared.Value.{Value}

-- OPERANDS: where no expression is refused on either side, they are the operands raised

module _ (d : ℕ) (ns : List Name) (here : ℕ) where
  abbrev up : List Name
  up = map (raised_name d) ns

  evaluated-raised : (w : Wanted) (e : Read (List (Addend Placed))) → refusal_for w (evaluated (find ns) here e) ≡ 0 → refusal_for w (evaluated (find up) (here + d) e) ≡ 0
      → evaluated (find up) (here + d) e ≡ raised_evaluated d (evaluated (find ns) here e)
  evaluated-raised w e p q =
      let x = accepted w (evaluated (find ns) here e) p in
      let y = accepted w (evaluated (find up) (here + d) e) q in
      y.good ∙ ap Ok (expression-raised d ns here e _ _ x.good y.good) ∙ sym (ap (raised_evaluated d) x.good)

  module _ (o : List ℕ) where
    item-raised : (i : Option ℕ) → item_no (item_of (find ns) here o i) ≡ 0 → item_no (item_of (find up) (here + d) o i) ≡ 0
        → item_of (find up) (here + d) o i ≡ raised_item d (item_of (find ns) here o i)
    item-raised None p q = refl
    item-raised (Some x) p q = rw (evaluated-raised Wanted.OnlyAbsolute (expression_at o x) p q)

    address-raised : (a : Address) → address_no (address_of (find ns) here o a) ≡ 0 → address_no (address_of (find up) (here + d) o a) ≡ 0
        → address_of (find up) (here + d) o a ≡ raised_address d (address_of (find ns) here o a)
    address-raised a p q =
        let (p₀, p₁) = lower-zero _ _ p in
        let (p₂, p₃) = lower-zero _ _ p₁ in
        let (q₀, q₁) = lower-zero _ _ q in
        let (q₂, q₃) = lower-zero _ _ q₁ in
        rw (evaluated-raised Wanted.Any (expression_at o a.at) p₀ q₀, item-raised a.length p₂ q₂, item-raised a.register p₃ q₃, implied_raised d ns (term_at o a.at))

    -- R13.6: none of 18, 19 and 20 on either side
    operands-raised : (op : Operation) (x : Result Shape ℕ) → expressions_no op (operands_of (find ns) here o x) ≡ 0
        → expressions_no op (operands_of (find up) (here + d) o x) ≡ 0
        → operands_of (find up) (here + d) o x ≡ raised_operands d (operands_of (find ns) here o x)
    unfolding operands_of expressions_no
    operands-raised op (Err p) e f = refl
    operands-raised op (Ok Shape.Nothing) e f = refl
    operands-raised op (Ok (Shape.StartAt n)) e f = refl
    operands-raised op (Ok Shape.Expression) e f = ap Operands.Lone (evaluated-raised (first_wanted op) (expression_at o 0) e f)
    operands-raised op (Ok (Shape.Pair p)) e f =
        let (e₀, e₁) = lower-zero _ _ e in
        let (f₀, f₁) = lower-zero _ _ f in
        rw (evaluated-raised (first_wanted op) (expression_at o 0) e₀ f₀, evaluated-raised Wanted.OnlyAbsolute (expression_at o p) e₁ f₁)
    operands-raised op (Ok Shape.Target) e f = ap Operands.Lone (evaluated-raised (first_wanted op) (expression_at o 0) e f)
    operands-raised op (Ok (Shape.TwoAddresses a b)) e f =
        let (e₀, e₁) = lower-zero _ _ e in
        let (f₀, f₁) = lower-zero _ _ f in
        rw (address-raised a e₀ f₀, address-raised b e₁ f₁)
    operands-raised op (Ok (Shape.AddressAndCode a x)) e f =
        let (e₀, e₁) = lower-zero _ _ e in
        let (f₀, f₁) = lower-zero _ _ f in
        rw (address-raised a e₀ f₀, evaluated-raised Wanted.OnlyAbsolute (expression_at o x) e₁ f₁)
    operands-raised op (Ok (Shape.LoneAddress a)) e f = ap Operands.LoneAddress (address-raised a e f)
    operands-raised op (Ok (Shape.Data c)) e f = go c.card c.kind e f
      where
        x₀ : Operands
        x₀ = Operands.AddressConstants c.copies c.length (evaluated (find ns) here (expression_at o c.value))

        x₁ : Operands
        x₁ = Operands.AddressConstants c.copies c.length (evaluated (find up) (here + d) (expression_at o c.value))

        go : (card : DataCard) (k : DataType) → expressions_no op (by_card card (by_type k x₀)) ≡ 0 → expressions_no op (by_card card (by_type k x₁)) ≡ 0
            → by_card card (by_type k x₁) ≡ raised_operands d (by_card card (by_type k x₀))
        go DataCard.Reserve k e f = refl
        go DataCard.Constant DataType.Characters e f = refl
        go DataCard.Constant DataType.Hexadecimal e f = refl
        go DataCard.Constant DataType.Decimal e f = refl
        go DataCard.Constant DataType.Address e f =
            ap (Operands.AddressConstants c.copies c.length) (evaluated-raised (constant_wanted c.length) (expression_at o c.value) e f)

-- A LINE that is not START

module _ (d : ℕ) (s : List ℕ) (l : Line) (ns : List Name) (here : ℕ) where
  abbrev x₀ : Operands
  x₀ = operands_at (find ns) here s l

  abbrev x₁ : Operands
  x₁ = operands_at (find (up d ns here)) (here + d) s l

  at-raised : expressions_no l.operation x₀ ≡ 0 → expressions_no l.operation x₁ ≡ 0 → x₁ ≡ raised_operands d x₀
  at-raised h k = operands-raised d ns here (operand_columns s l) l.operation l.shape h k

  pub value-raised : expressions_no l.operation x₀ ≡ 0 → expressions_no l.operation x₁ ≡ 0 → lone_value x₁ ≡ raised_maybe d (lone_value x₀)
  value-raised h k = ap lone_value (at-raised h k) ∙ lone-raised d x₀

  module _ (later : again_no (role_of l.operation) ≡ 0) (early : early_no (find ns) here s l ≡ 0) (early' : early_no (find (up d ns here)) (here + d) s l ≡ 0) where
    -- THE COUNTER

    pub counter-raised : counter_after (find (up d ns here)) (here + d) s l ≡ counter_after (find ns) here s l + d
    unfolding early_no counter_after
    counter-raised = go (role_of l.operation) later early early'
      where
        by : (v : Option Value) → with_relocatable (only_relocatable (raised_maybe d v)) (λ n. n) (here + d) ≡ with_relocatable (only_relocatable v) (λ n. n) here + d
        by (Some (Value.Absolute a)) = refl
        by (Some (Value.Relocatable a)) = refl
        by None = refl

        go : (r : Role) → again_no r ≡ 0 → early_by r l.operation x₀ ≡ 0 → early_by r l.operation x₁ ≡ 0 → counter_by r (lone_value x₁) (here + d) l ≡ counter_by r (lone_value x₀) here l + d
        go Role.Starts n h k = absurd (omega arith)
        go Role.Equates n h k = refl
        go Role.SetsCounter n h k = rw (value-raised h k) (by (lone_value x₀))
        go Role.Ends n h k = refl
        go Role.Advances n h k = omega arith

    -- THE NAME

    pub name-raised : sizes_no l.shape ≡ 0 → name_value (find (up d ns here)) (here + d) s l ≡ raised_maybe d (name_value (find ns) here s l)
    unfolding early_no name_value
    name-raised sizes = go (role_of l.operation) later early early'
      where
        -- m is at least 1, so that a name of DC or DS is no lower than the counter
        some : (card : DataCard) (c : Data) → data_no_by card c ≡ 0 → here + d + c.length - 1 ≡ here + c.length - 1 + d
        some DataCard.Constant c h = let m = (constant-fine c h).some in omega arith
        some DataCard.Reserve c h = let m = (reserve-fine c h).some in omega arith

        place : place_named (here + d) l.shape ≡ place_named here l.shape + d
        place =
            of_data_lem (λ f. f ℕ data_no 0 ≡ 0 → f ℕ (λ c. here + d + c.length - 1) (here + d) ≡ f ℕ (λ c. here + c.length - 1) here + d)
            (λ c h. some c.card c h) (λ h. refl) l.shape sizes

        go : (r : Role) → again_no r ≡ 0 → early_by r l.operation x₀ ≡ 0 → early_by r l.operation x₁ ≡ 0 → name_value_by r (lone_value x₁) (here + d) l ≡ raised_maybe d (name_value_by r (lone_value x₀) here l)
        go Role.Starts n h k = absurd (omega arith)
        go Role.Equates n h k = value-raised h k
        go Role.SetsCounter n h k = refl
        go Role.Ends n h k = refl
        go Role.Advances n h k = ap (λ (n : ℕ). Some (Value.Relocatable (record { 0 = n }))) place

  -- THE BASES AND THE TEXT

  module _ (fine : expressions_no l.operation x₀ ≡ 0) (fine' : expressions_no l.operation x₁ ≡ 0) (bases : Bases) where
    pub line_bases : bases_after l.operation x₁ (raised_bases d bases) ≡ raised_bases d (bases_after l.operation x₀ bases)
    line_bases = rw (at-raised fine fine') (bases_raised d l.operation x₀ bases)

    plain_stays : (bs : List ℕ) → map plain bs ≡ map (raised_piece d) (map plain bs)
    plain_stays [] = refl
    plain_stays (b ∷ bs) = ap (λ ps. plain b ∷ ps) (plain_stays bs)

    pub line-pieces : line_pieces (find (up d ns here)) (record { counter = here + d; bases = raised_bases d bases }) s l
        ≡ map (raised_piece d) (line_pieces (find ns) (record { counter = here; bases = bases }) s l)
    unfolding line_pieces
    line-pieces =
        let o = operand_columns s l in
        let ps = pieces_of (statement_from l.operation x₀ here bases) in
        rw (at-raised fine fine', pieces-raised d l.operation x₀ here bases fine)
        (of_data_lem (λ f. f (List Piece) (λ c. data_pieces c.card c.kind (constant_text o c) (map (raised_piece d) ps)) (map (raised_piece d) ps)
        ≡ map (raised_piece d) (f (List Piece) (λ c. data_pieces c.card c.kind (constant_text o c) ps) ps))
        (λ c. data_pieces_lem c.card c.kind (constant_text o c) ps) refl l.shape)
      where
        data_pieces_lem : (card : DataCard) (k : DataType) (bs : List ℕ) (ps : List Piece) → data_pieces card k bs (map (raised_piece d) ps) ≡ map (raised_piece d) (data_pieces card k bs ps)
        data_pieces_lem DataCard.Constant DataType.Characters bs ps = plain_stays bs
        data_pieces_lem DataCard.Constant DataType.Hexadecimal bs ps = plain_stays bs
        data_pieces_lem DataCard.Constant DataType.Decimal bs ps = plain_stays bs
        data_pieces_lem DataCard.Constant DataType.Address bs ps = refl
        data_pieces_lem DataCard.Reserve k bs ps = refl
