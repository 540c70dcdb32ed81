-- A card's operands and bases raised by d: Q, lengths, registers, displacement bytes and jump bytes stay, its bases and its pieces are raised.
use Rattle.std.specs.Prelude.{◌+◌, ◌-◌, ◌%◌, ◌/◌, ◌∷◌, ◌≡◌}
use Rattle.theorems.specs.Logic.{ℕ, zero, suc, List, [], map, map-append, Bool, true, false, refl, sym, ap, arith, leb, eqb, le-leb, lt-leb, leb-true, leb-false, eqb-true, Option, None, Some, Result, Ok, Err}
use Rattle.theorems.specs.Types.{Value, Operation, Use, Rule, EvaluatedAddress, Operands, Bases, Operand, Statement, Piece, plain, value, Absolute, Fault, Refusal}
use Rattle.values.specs.Tests.{pick, both}
use Rattle.values.specs.declared.Wanted.TheVariants.{Any, OnlyAbsolute}
use Rattle.values.specs.Values.{with_value, with_absolute}
use Rattle.values.proofs.Laws.{clash}
use Rattle.names.specs.Raised.{raised_value}
use Rattle.expressions.specs.Value.{kind_of, suits, value_in, absolute_in}
use Rattle.expressions.proofs.Laws.{accepted}
use Rattle.operations.specs.Traits.{use_of, rule_of}
use Rattle.operands.specs.Kinds.{constant_wanted, expressions_no}
use Rattle.places.specs.Codes.{item_or, two_code, behind_code, code_of}
use Rattle.places.specs.Places.{is_register, away_from, displaced_by, indexed_by, by_register, operand_of, jump_code, jump_to, with_base, using_base, drop_base, registered_by, bases_by}
use Rattle.statements.specs.Statements.{next_of, two_of, one_of, jump_of, statement_from, bases_after, lone_value}
use Rattle.encode.specs.Pieces.{address_pieces, copied, pieces_of}
use Rattle.theorems.specs.Raised.{raised_maybe, raised_evaluated, raised_item, raised_address, raised_operands, raised_bases, raised_operand, raised_placed, raised_piece}
use Rattle.expressions.specs.declared.Fault.TheVariants.{Malformed, Undefined, WrongKind, OutOfRange}
use Rattle.values.specs.declared.refusals.Refusal.TheVariants.{NoBase, OutOfReach}

module _ (d : ℕ) where
  -- VALUES

  value_in_lem : (e : Result Value Fault) → value_in (raised_evaluated d e) ≡ raised_maybe d (value_in e)
  value_in_lem (Ok v) = refl
  value_in_lem (Err Malformed) = refl
  value_in_lem (Err Undefined) = refl
  value_in_lem (Err WrongKind) = refl
  value_in_lem (Err (OutOfRange k)) = refl

  absolute_in_lem : (e : Result Value Fault) → absolute_in (raised_evaluated d e) ≡ absolute_in e
  absolute_in_lem (Ok (Value.Absolute a)) = refl
  absolute_in_lem (Ok (Value.Relocatable a)) = refl
  absolute_in_lem (Err f) = refl

  pub lone-raised : (x : Operands) → lone_value (raised_operands d x) ≡ raised_maybe d (lone_value x)
  lone-raised (Operands.TwoAddresses a b) = refl
  lone-raised (Operands.AddressAndCode a q) = refl
  lone-raised (Operands.LoneAddress a) = refl
  lone-raised (Operands.Pair e q) = refl
  lone-raised (Operands.Lone e) = value_in_lem e
  lone-raised (Operands.AddressConstants n m e) = refl
  lone-raised Operands.NoExpression = refl

  -- Q

  item_stays : (i : Option (Result Value Fault)) (other : Option Absolute) → item_or (raised_item d i) other ≡ item_or i other
  item_stays None other = refl
  item_stays (Some e) other = absolute_in_lem e

  two-code : (r : Rule) (a b : EvaluatedAddress) → two_code r (raised_address d a) (raised_address d b) ≡ two_code r a b
  two-code Rule.Lengths a b = rw (item_stays a.length, item_stays b.length)
  two-code Rule.Length a b = rw (item_stays b.length, item_stays a.length)
  two-code Rule.Item a b = rw (item_stays b.length, item_stays a.length)
  two-code Rule.Register a b = refl
  two-code Rule.Written a b = refl
  two-code (Rule.Given q) a b = refl

  code_stays : (op : Operation) (x : Operands) → code_of op (raised_operands d x) ≡ code_of op x
  unfolding code_of
  code_stays op (Operands.TwoAddresses a b) = two-code (rule_of op) a b
  code_stays op (Operands.AddressAndCode a q) = ap (behind_code (rule_of op)) (absolute_in_lem q)
  code_stays op (Operands.LoneAddress a) = refl
  code_stays op (Operands.Pair e q) = ap (behind_code (rule_of op)) (absolute_in_lem q)
  code_stays op (Operands.Lone e) = refl
  code_stays op (Operands.AddressConstants n m e) = refl
  code_stays op Operands.NoExpression = refl

  -- OPERANDS

  leb-both : (a b : ℕ) → leb (a + d) (b + d) ≡ leb a b
  leb-both a b = go (leb a b) refl
    where
      go : (x : Bool) → leb a b ≡ x → leb (a + d) (b + d) ≡ x
      go true e = le-leb (a + d) (b + d) (omega (arith, leb-true a b e))
      go false e = lt-leb (a + d) (b + d) (omega (arith, leb-false a b e))

  reach-raised : (b : Bool) (x : Operand) → pick b (Ok (Some (raised_operand d x))) (Err OutOfReach) ≡ raised_placed d (pick b (Ok (Some x)) (Err OutOfReach))
  reach-raised true x = refl
  reach-raised false x = refl

  -- a value and the base that it is measured from are both d higher: the displacement stays
  displaced-raised : (v : Value) (r : ℕ) (base : Option Value) → displaced_by (raised_value d v) r (raised_maybe d base) ≡ raised_placed d (displaced_by v r base)
  unfolding displaced_by away_from
  displaced-raised (Value.Absolute a) r base = reach-raised (both (leb 0 a.0) (leb (a.0 - 0) 255)) (Operand.Indexed (Value.Absolute a) r (a.0 - 0))
  displaced-raised (Value.Relocatable a) r None = refl
  displaced-raised (Value.Relocatable a) r (Some (Value.Absolute b)) = refl
  displaced-raised (Value.Relocatable a) r (Some (Value.Relocatable b)) =
      let e : a.0 + d - (b.0 + d) ≡ a.0 - b.0 = omega arith in
      rw (leb-both b.0 a.0, e) (reach-raised (both (leb b.0 a.0) (leb (a.0 - b.0) 255)) (Operand.Indexed (Value.Relocatable a) r (a.0 - b.0)))

  indexed-raised : (bases : Bases) (v : Value) (r : ℕ) → indexed_by (raised_bases d bases) (raised_value d v) r ≡ raised_placed d (indexed_by bases v r)
  unfolding indexed_by
  indexed-raised bases v r = go (is_register r) (eqb r 1)
    where
      go : (b c : Bool) → pick b (displaced_by (raised_value d v) r (pick c (raised_maybe d bases.one) (raised_maybe d bases.two))) (Err NoBase)
          ≡ raised_placed d (pick b (displaced_by v r (pick c bases.one bases.two)) (Err NoBase))
      go true true = displaced-raised v r bases.one
      go true false = displaced-raised v r bases.two
      go false c = refl

  operand-raised : (bases : Bases) (a : EvaluatedAddress) → operand_of (raised_bases d bases) (raised_address d a) ≡ raised_placed d (operand_of bases a)
  unfolding operand_of
  operand-raised bases a = rw (value_in_lem a.address) (go (value_in a.address))
    where
      by : (v : Value) (r : Option Absolute) → with_absolute r (indexed_by (raised_bases d bases) (raised_value d v)) (Ok None)
          ≡ raised_placed d (with_absolute r (indexed_by bases v) (Ok None))
      by v (Some r) = indexed-raised bases v r.0
      by v None = refl

      at : (v : Value) (i : Option (Result Value Fault)) → by_register (raised_bases d bases) (raised_value d v) (raised_item d i) ≡ raised_placed d (by_register bases v i)
      at v None = refl
      at v (Some e) = rw (absolute_in_lem e) (by v (absolute_in e))

      go : (m : Option Value) → with_value (raised_maybe d m) (λ v. by_register (raised_bases d bases) v (raised_item d a.register)) (Ok None)
          ≡ raised_placed d (with_value m (λ v. by_register bases v a.register) (Ok None))
      go (Some v) = at v a.register
      go None = refl

  -- the target and the next instruction are both d higher
  jump_stays : (next : ℕ) (e : Result Value Fault) → jump_to (next + d) (raised_evaluated d e) ≡ jump_to next e
  unfolding jump_code
  jump_stays next (Ok (Value.Absolute a)) = refl
  jump_stays next (Ok (Value.Relocatable a)) =
      let s : a.0 + d - (next + d) ≡ a.0 - next = omega arith in
      rw (leb-both next a.0, s)
  jump_stays next (Err Malformed) = refl
  jump_stays next (Err Undefined) = refl
  jump_stays next (Err WrongKind) = refl
  jump_stays next (Err (OutOfRange k)) = refl

  -- BASES

  with_base_lem : (bases : Bases) (r : ℕ) (b : Option Value) → with_base (raised_bases d bases) r (raised_maybe d b) ≡ raised_bases d (with_base bases r b)
  with_base_lem bases r b = go (eqb r 1) (eqb r 2)
    where
      go : (x y : Bool) → pick x (record { one = raised_maybe d b; two = raised_maybe d bases.two }) (pick y (record { one = raised_maybe d bases.one; two = raised_maybe d b }) (raised_bases d bases))
          ≡ raised_bases d (pick x (record { one = b; two = bases.two }) (pick y (record { one = bases.one; two = b }) bases))
      go true y = refl
      go false true = refl
      go false false = refl

  pub bases_raised : (op : Operation) (x : Operands) (bases : Bases) → bases_after op (raised_operands d x) (raised_bases d bases) ≡ raised_bases d (bases_after op x bases)
  unfolding bases_by
  bases_raised op x bases = go (use_of op)
    where
      used : (r : Option Absolute) (v : Option Value) → using_base (raised_bases d bases) r (raised_maybe d v) ≡ raised_bases d (using_base bases r v)
      used (Some r) (Some v) = with_base_lem bases r.0 (Some v)
      used (Some r) None = refl
      used None v = refl

      dropped : (r : Option Absolute) → drop_base (raised_bases d bases) r ≡ raised_bases d (drop_base bases r)
      dropped (Some r) = with_base_lem bases r.0 None
      dropped None = refl

      registered : (x : Operands) → registered_by (raised_operands d x) (raised_bases d bases) ≡ raised_bases d (registered_by x bases)
      registered (Operands.TwoAddresses a b) = refl
      registered (Operands.AddressAndCode a q) = refl
      registered (Operands.LoneAddress a) = refl
      registered (Operands.Pair e r) = rw (absolute_in_lem r, value_in_lem e) (used (absolute_in r) (value_in e))
      registered (Operands.Lone r) = rw (absolute_in_lem r) (dropped (absolute_in r))
      registered (Operands.AddressConstants n m e) = refl
      registered Operands.NoExpression = refl

      go : (u : Use) → bases_by u (raised_operands d x) (raised_bases d bases) ≡ raised_bases d (bases_by u x bases)
      go Use.Jumps = refl
      go Use.Registers = registered x
      go Use.Nothing = refl

  -- PIECES

  one-pieces : (op : Operation) (c : Result (Option ℕ) Refusal) (a : Result (Option Operand) Refusal)
      → pieces_of (one_of op c (raised_placed d a)) ≡ map (raised_piece d) (pieces_of (one_of op c a))
  unfolding pieces_of
  one-pieces op (Ok (Some q)) (Ok (Some (Operand.Direct v))) = refl
  one-pieces op (Ok (Some q)) (Ok (Some (Operand.Indexed v r x))) = refl
  one-pieces op (Ok (Some q)) (Err r) = refl
  one-pieces op (Ok (Some q)) (Ok None) = refl
  one-pieces op (Err r) a = refl
  one-pieces op (Ok None) a = refl

  two-pieces : (op : Operation) (c : Result (Option ℕ) Refusal) (a b : Result (Option Operand) Refusal)
      → pieces_of (two_of op c (raised_placed d a) (raised_placed d b)) ≡ map (raised_piece d) (pieces_of (two_of op c a b))
  unfolding pieces_of
  two-pieces op (Ok (Some q)) (Ok (Some (Operand.Direct v))) (Ok (Some (Operand.Direct w))) = refl
  two-pieces op (Ok (Some q)) (Ok (Some (Operand.Direct v))) (Ok (Some (Operand.Indexed w s y))) = refl
  two-pieces op (Ok (Some q)) (Ok (Some (Operand.Indexed v r x))) (Ok (Some (Operand.Direct w))) = refl
  two-pieces op (Ok (Some q)) (Ok (Some (Operand.Indexed v r x))) (Ok (Some (Operand.Indexed w s y))) = refl
  two-pieces op (Ok (Some q)) (Ok (Some x)) (Err r) = refl
  two-pieces op (Ok (Some q)) (Ok (Some x)) (Ok None) = refl
  two-pieces op (Ok (Some q)) (Err r) b = refl
  two-pieces op (Ok (Some q)) (Ok None) b = refl
  two-pieces op (Err r) a b = refl
  two-pieces op (Ok None) a b = refl

  -- a jump has no value among its pieces
  jump-pieces : (u : Use) (c reach : Result (Option ℕ) Refusal) → pieces_of (jump_of u c reach) ≡ map (raised_piece d) (pieces_of (jump_of u c reach))
  unfolding pieces_of
  jump-pieces Use.Jumps (Ok (Some q)) (Ok (Some b)) = refl
  jump-pieces Use.Jumps (Ok (Some q)) (Err r) = refl
  jump-pieces Use.Jumps (Ok (Some q)) (Ok None) = refl
  jump-pieces Use.Jumps (Err r) reach = refl
  jump-pieces Use.Jumps (Ok None) reach = refl
  jump-pieces Use.Registers c reach = refl
  jump-pieces Use.Nothing c reach = refl

  -- R8.12: of another length than 2 it is absolute and stays
  address-pieces : (m : ℕ) (v : Value) → suits (constant_wanted m) (kind_of v) ≡ true → address_pieces m (raised_value d v) ≡ map (raised_piece d) (address_pieces m v)
  unfolding address_pieces
  address-pieces m (Value.Absolute a) h = go (eqb m 1) (eqb m 3)
    where
      go : (x y : Bool) → pick x (plain (a.0 % 256) ∷ []) (pick y (plain 0 ∷ plain (a.0 / 256 % 256) ∷ plain (a.0 % 256) ∷ []) (value (Value.Absolute a) ∷ []))
          ≡ map (raised_piece d) (pick x (plain (a.0 % 256) ∷ []) (pick y (plain 0 ∷ plain (a.0 / 256 % 256) ∷ plain (a.0 % 256) ∷ []) (value (Value.Absolute a) ∷ [])))
      go true y = refl
      go false true = refl
      go false false = refl
  address-pieces m (Value.Relocatable a) h = go (eqb m 2) refl h
    where
      go : (x : Bool) → eqb m 2 ≡ x → suits (pick x Any OnlyAbsolute) (kind_of (Value.Relocatable a)) ≡ true
          → address_pieces m (Value.Relocatable (record { 0 = a.0 + d })) ≡ map (raised_piece d) (address_pieces m (Value.Relocatable a))
      go true e h = rw (eqb-true m 2 e)
      go false e h = clash (cc)

  copied-raised : (n : ℕ) (ps : List Piece) → copied n (map (raised_piece d) ps) ≡ map (raised_piece d) (copied n ps)
  unfolding copied
  copied-raised zero ps = refl
  copied-raised (suc n) ps = rw (copied-raised n ps) (sym (map-append (raised_piece d) ps (copied n ps)))

  next : (op : Operation) (here : ℕ) → next_of op (here + d) ≡ next_of op here + d
  next op here = omega arith

  constants_raised : (n m : ℕ) (v : Value) → suits (constant_wanted m) (kind_of v) ≡ true
      → pieces_of (Statement.AddressConstants n m (raised_value d v)) ≡ map (raised_piece d) (pieces_of (Statement.AddressConstants n m v))
  unfolding pieces_of
  constants_raised n m v h = rw (address-pieces m v h) (copied-raised n (address_pieces m v))

  none-raised : pieces_of Statement.NoBytes ≡ map (raised_piece d) (pieces_of Statement.NoBytes)
  unfolding pieces_of
  none-raised = refl

  -- a statement's pieces are raised where no expression of its card is refused
  pub pieces-raised : (op : Operation) (x : Operands) (here : ℕ) (bases : Bases) → expressions_no op x ≡ 0
      → pieces_of (statement_from op (raised_operands d x) (here + d) (raised_bases d bases)) ≡ map (raised_piece d) (pieces_of (statement_from op x here bases))
  unfolding statement_from expressions_no
  pieces-raised op (Operands.TwoAddresses a b) here bases h =
      rw (code_stays op (Operands.TwoAddresses a b), operand-raised bases a, operand-raised bases b) (two-pieces op (code_of op (Operands.TwoAddresses a b)) (operand_of bases a) (operand_of bases b))
  pieces-raised op (Operands.AddressAndCode a q) here bases h =
      rw (code_stays op (Operands.AddressAndCode a q), operand-raised bases a) (one-pieces op (code_of op (Operands.AddressAndCode a q)) (operand_of bases a))
  pieces-raised op (Operands.LoneAddress a) here bases h =
      rw (code_stays op (Operands.LoneAddress a), operand-raised bases a) (one-pieces op (code_of op (Operands.LoneAddress a)) (operand_of bases a))
  pieces-raised op (Operands.Pair e q) here bases h =
      rw (code_stays op (Operands.Pair e q), next op here, jump_stays (next_of op here) e) (jump-pieces (use_of op) (code_of op (Operands.Pair e q)) (jump_to (next_of op here) e))
  pieces-raised op (Operands.Lone e) here bases h =
      rw (code_stays op (Operands.Lone e), next op here, jump_stays (next_of op here) e) (jump-pieces (use_of op) (code_of op (Operands.Lone e)) (jump_to (next_of op here) e))
  pieces-raised op (Operands.AddressConstants n m e) here bases h =
      let x = accepted (constant_wanted m) e h in
      rw x.good (constants_raised n m x.value x.kind)
  pieces-raised op Operands.NoExpression here bases h = none-raised
