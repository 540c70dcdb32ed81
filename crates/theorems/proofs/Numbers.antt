-- R14.1: what the two passes refuse with is 9 to 24.
use Rattle.std.specs.Prelude.{◌+◌, ◌-◌, ◌≤◌, ◌≡◌, ◌⊎◌}
use Rattle.theorems.specs.Logic.{ℕ, List, Bool, true, false, refl, subst, inl, inr, arith, length, ltb, leb, eqb, eqb-true, leb-true, Option, None, Some, Result, Ok, Err}
use Rattle.theorems.specs.Types.{Meaning, Operation, Role, Naming, Use, Rule, DataCard, Data, EvaluatedAddress, Operands, Bases, Wanted, Shape, Line, Reading, Phase, Course, State, refused, Value, Absolute, Relocatable, Fault}
use Rattle.values.proofs.Laws.{both_true}
use Rattle.values.specs.Tests.{either, both, pick, or_else, lower}
use Rattle.values.specs.Values.{amount_of, with_value, with_absolute, with_relocatable}
use Rattle.values.specs.Refusals.{number_in}
use Rattle.names.specs.Names.{find, refusal_of, name_refusal}
use Rattle.operations.specs.Traits.{traits_of, role_of, first_wanted, use_of, rule_of, named_no}
use Rattle.data.specs.Sizes.{length_fits, bytes_needed, data_size, constant_no, reserve_no, data_no_by, data_no}
use Rattle.operands.specs.Kinds.{item_no, address_no, constant_wanted, expressions_no}
use Rattle.places.specs.Codes.{lengths_code, length_code, item_code, register_code, written_code, item_or, length_or, two_code, behind_code, given_code, code_of, code_no}
use Rattle.places.specs.Places.{is_register, base_of, away_from, displaced_by, indexed_by, by_register, operand_of, placed_no, jump_code, jump_to, reach_no, register_no, use_no, places_no}
use Rattle.statements.specs.Statements.{next_of, statement_no}
use Rattle.passes.specs.Cards.{operands_at, name_value}
use Rattle.passes.specs.Two.{outset, reading_two_no, two_no}
use Rattle.theorems.proofs.Lines.{of_data_lem}
use Rattle.cards.specs.Fields.{all_accepted, byte_no}
use Rattle.expressions.specs.Value.{suits, kind_of, refusal_for, value_in, absolute_in, relocatable_in}
use Rattle.forms.specs.Size.{size_of}
use Rattle.lines.specs.Lines.{reading_of, shape_no}
use Rattle.passes.specs.One.{fresh, after_end_no, start_no, again_no, most_names, if_named, early_by, early_no, m_fits, over, over_no, value_no, line_no, reading_no, one_no}
use Rattle.passes.specs.Assembly.{assembled}
use Rattle.theorems.specs.Grow.{look_in}
use Rattle.theorems.specs.Accepted.{one_at, two_at, FirstRefused}
use Rattle.theorems.proofs.Accepted.{Fate, fate}
use Rattle.expressions.specs.declared.Fault.TheVariants.{Malformed, Undefined, WrongKind, OutOfRange}
use Rattle.values.specs.declared.refusals.Refusal.TheVariants.{NoBase, OutOfReach, BadSize}

-- none, or 9 to 24: a test that computes
abbrev Number : ℕ → Type 0
Number n = either (eqb n 0) (both (leb 9 n) (leb n 24)) ≡ true

pick-number : (b : Bool) (m n : ℕ) → Number m → Number n → Number (pick b m n)
pick-number true m n h k = h
pick-number false m n h k = k

or_number : (m n : ℕ) → Number m → Number n → Number (or_else m n)
unfolding or_else
or_number m n h k = pick-number (eqb m 0) n m k h

lower-number : (m n : ℕ) → Number m → Number n → Number (lower m n)
unfolding lower
lower-number m n h k = pick-number (eqb m 0) n _ k (pick-number (eqb n 0) m _ h (pick-number (ltb m n) m n h k))

-- PASS TWO

wanted : (w : Wanted) (e : Result Value Fault) → Number (refusal_for w e)
wanted w (Ok v) = pick-number (suits w (kind_of v)) 0 19 refl refl
wanted w (Err Malformed) = refl
wanted w (Err Undefined) = refl
wanted w (Err WrongKind) = refl
wanted w (Err (OutOfRange k)) = pick-number (suits w k) 20 19 refl refl

item : (v : Option (Result Value Fault)) → Number (item_no v)
item None = refl
item (Some e) = wanted Wanted.OnlyAbsolute e

address : (a : EvaluatedAddress) → Number (address_no a)
address a = lower-number _ _ (wanted Wanted.Any a.address) (lower-number _ _ (item a.length) (item a.register))

expressions : (op : Operation) (x : Operands) → Number (expressions_no op x)
unfolding expressions_no
expressions op (Operands.TwoAddresses a b) = lower-number _ _ (address a) (address b)
expressions op (Operands.AddressAndCode a q) = lower-number _ _ (address a) (wanted Wanted.OnlyAbsolute q)
expressions op (Operands.LoneAddress a) = address a
expressions op (Operands.Pair e q) = lower-number _ _ (wanted (first_wanted op) e) (wanted Wanted.OnlyAbsolute q)
expressions op (Operands.Lone e) = wanted (first_wanted op) e
expressions op (Operands.AddressConstants n m e) = wanted (constant_wanted m) e
expressions op Operands.NoExpression = refl

-- Q: a byte of one of the rules, or 21
byte_or : (b : Bool) (n : ℕ) → Number (code_no (pick b (Ok (Some n)) (Err BadSize)))
byte_or true n = refl
byte_or false n = refl

absolute-number : {X : Type 0} (number : X → ℕ) (q : Option Absolute) (f : ℕ → X) (other : X) → ((n : ℕ) → Number (number (f n))) → Number (number other)
    → Number (number (with_absolute q f other))
absolute-number number (Some a) f other h k = h a.0
absolute-number number None f other h k = k

two-code : (r : Rule) (a b : EvaluatedAddress) → Number (code_no (two_code r a b))
unfolding lengths_code length_code item_code
two-code Rule.Lengths a b =
    absolute-number code_no (length_or a.length a) _ (Ok None)
    (λ l1. absolute-number code_no (length_or b.length b) (lengths_code l1) (Ok None)
    (λ l2. byte_or (both (leb 1 l2) (both (leb l2 16) (both (leb l2 l1) (leb (l1 - l2) 15)))) _) refl) refl
two-code Rule.Length a b = absolute-number code_no (item_or a.length (length_or b.length a)) length_code (Ok None) (λ l. byte_or (both (leb 1 l) (leb l 256)) _) refl
two-code Rule.Item a b = absolute-number code_no (item_or a.length (item_or b.length None)) item_code (Ok None) (λ i. byte_or (leb i 3) _) refl
two-code Rule.Register a b = refl
two-code Rule.Written a b = refl
two-code (Rule.Given q) a b = refl

behind-code : (r : Rule) (q : Option Absolute) → Number (code_no (behind_code r q))
unfolding register_code written_code
behind-code Rule.Lengths q = refl
behind-code Rule.Length q = refl
behind-code Rule.Item q = refl
behind-code Rule.Register q = absolute-number code_no q register_code (Ok None) (λ n. byte_or (both (leb 1 n) (leb n 2)) _) refl
behind-code Rule.Written q = absolute-number code_no q written_code (Ok None) (λ n. byte_or (leb n 255) _) refl
behind-code (Rule.Given given) q = refl

given-code : (r : Rule) → Number (code_no (given_code r))
given-code Rule.Lengths = refl
given-code Rule.Length = refl
given-code Rule.Item = refl
given-code Rule.Register = refl
given-code Rule.Written = refl
given-code (Rule.Given q) = refl

code : (op : Operation) (x : Operands) → Number (code_no (code_of op x))
unfolding code_of
code op (Operands.TwoAddresses a b) = two-code (rule_of op) a b
code op (Operands.AddressAndCode a q) = behind-code (rule_of op) (absolute_in q)
code op (Operands.LoneAddress a) = given-code (rule_of op)
code op (Operands.Pair e q) = behind-code (rule_of op) (absolute_in q)
code op (Operands.Lone e) = given-code (rule_of op)
code op (Operands.AddressConstants n m e) = given-code (rule_of op)
code op Operands.NoExpression = given-code (rule_of op)

-- an operand: 22 or 23
reach-number : {X : Type 0} (b : Bool) (x : X) → Number (number_in (pick b (Ok x) (Err OutOfReach)))
reach-number true x = refl
reach-number false x = refl

displaced-number : (v : Value) (r : ℕ) (base : Option Value) → Number (placed_no (displaced_by v r base))
unfolding displaced_by away_from
displaced-number (Value.Absolute a) r base = reach-number (both (leb 0 a.0) (leb (a.0 - 0) 255)) _
displaced-number (Value.Relocatable a) r None = refl
displaced-number (Value.Relocatable a) r (Some (Value.Absolute b)) = refl
displaced-number (Value.Relocatable a) r (Some (Value.Relocatable b)) = reach-number (both (leb b.0 a.0) (leb (a.0 - b.0) 255)) _

indexed-number : (bases : Bases) (v : Value) (r : ℕ) → Number (placed_no (indexed_by bases v r))
unfolding indexed_by
indexed-number bases v r = go (is_register r)
  where
    go : (b : Bool) → Number (placed_no (pick b (displaced_by v r (base_of bases r)) (Err NoBase)))
    go true = displaced-number v r (base_of bases r)
    go false = refl

placed : (bases : Bases) (a : EvaluatedAddress) → Number (placed_no (operand_of bases a))
unfolding operand_of
placed bases a = go (value_in a.address) a.register
  where
    go : (v : Option Value) (i : Option (Result Value Fault)) → Number (placed_no (with_value v (λ v. by_register bases v i) (Ok None)))
    go (Some v) None = refl
    go (Some v) (Some e) = absolute-number placed_no (absolute_in e) (indexed_by bases v) (Ok None) (indexed-number bases v) refl
    go None i = refl

reach : (next : ℕ) (e : Result Value Fault) → Number (reach_no (jump_to next e))
unfolding jump_code
reach next e = go (relocatable_in e)
  where
    go : (to : Option Relocatable) → Number (reach_no (with_relocatable to (jump_code next) (Ok None)))
    go (Some a) = reach-number (both (leb next a.0) (leb (a.0 - next) 255)) _
    go None = refl

register : (r : Option Absolute) → Number (register_no r)
register (Some r) = pick-number (is_register r.0) 0 22 refl refl
register None = refl

used : (u : Use) (next : ℕ) (first last : Result Value Fault) → Number (use_no u next first last)
used Use.Jumps next first last = reach next first
used Use.Registers next first last = register (absolute_in last)
used Use.Nothing next first last = refl

places : (u : Use) (x : Operands) (next : ℕ) (bases : Bases) → Number (places_no u x next bases)
unfolding places_no
places u (Operands.TwoAddresses a b) next bases = lower-number _ _ (placed bases a) (placed bases b)
places u (Operands.AddressAndCode a q) next bases = placed bases a
places u (Operands.LoneAddress a) next bases = placed bases a
places u (Operands.Pair e last) next bases = used u next e last
places u (Operands.Lone e) next bases = used u next e e
places u (Operands.AddressConstants n m e) next bases = refl
places u Operands.NoExpression next bases = refl

two-number : (look : ℕ → Option Meaning) (c : Course) (s : List ℕ) → Number (two_no look c s)
unfolding two_no statement_no
two-number look c s = go (reading_of s)
  where
    go : (x : Reading) → Number (reading_two_no look c s x)
    go Reading.Comment = refl
    go Reading.BadName = refl
    go (Reading.Statement l) =
        let x = operands_at look c.counter s l in
        or_number _ _ (expressions l.operation x) (or_number _ _ (code l.operation x) (places (use_of l.operation) x (next_of l.operation c.counter) c.bases))

-- PASS ONE

after : (p : Phase) → Number (after_end_no p)
after Phase.Before = refl
after Phase.Within = refl
after Phase.Ended = refl

again : (r : Role) → Number (again_no r)
again Role.Starts = refl
again Role.Equates = refl
again Role.SetsCounter = refl
again Role.Ends = refl
again Role.Advances = refl

start : (p : Phase) (r : Role) → Number (start_no p r)
start Phase.Before Role.Starts = refl
start Phase.Before Role.Equates = refl
start Phase.Before Role.SetsCounter = refl
start Phase.Before Role.Ends = refl
start Phase.Before Role.Advances = refl
start Phase.Within r = again r
start Phase.Ended r = again r

named : (n : Naming) (name : Option ℕ) → Number (named_no n name)
named Naming.Needed (Some name) = refl
named Naming.Needed None = refl
named Naming.Taken name = refl
named Naming.Forbidden (Some name) = refl
named Naming.Forbidden None = refl

-- what a card that has a name is refused for
if-named : (name : Option ℕ) (rule : ℕ → ℕ) → ((k : ℕ) → Number (rule k)) → Number (if_named name rule)
if-named (Some name) rule h = h name
if-named None rule h = refl

sizes : (c : DataCard) (d : Data) → Number (data_no_by c d)
unfolding constant_no reserve_no
sizes DataCard.Constant d =
    pick-number (length_fits d) _ 21
    (pick-number (ltb 256 d.copies) 21 _ refl (pick-number (ltb d.length (bytes_needed d)) 21 _ refl (pick-number (ltb 256 (data_size d)) 21 0 refl refl)))
    refl
sizes DataCard.Reserve d = pick-number (length_fits d) _ 21 (pick-number (ltb 65535 d.copies) 21 0 refl refl) refl

-- 15
shaped : (x : Result Shape ℕ) → Number (shape_no x)
shaped (Err q) = refl
shaped (Ok Shape.Nothing) = refl
shaped (Ok (Shape.StartAt v)) = refl
shaped (Ok Shape.Expression) = refl
shaped (Ok (Shape.Pair p)) = refl
shaped (Ok Shape.Target) = refl
shaped (Ok (Shape.TwoAddresses a b)) = refl
shaped (Ok (Shape.AddressAndCode a p)) = refl
shaped (Ok (Shape.LoneAddress a)) = refl
shaped (Ok (Shape.Data d)) = refl

new : (st : State) (name : ℕ) → Number (name_refusal most_names st.names name)
unfolding name_refusal
new st name = go (find st.names name)
  where
    go : (e : Option Meaning) → Number (refusal_of most_names (length st.names) e)
    go (Some m) = refl
    go None = pick-number (ltb (length st.names) most_names) 0 17 refl refl

early : (r : Role) (op : Operation) (x : Operands) → Number (early_by r op x)
early Role.Starts op x = refl
early Role.Equates op x = expressions op x
early Role.SetsCounter op x = expressions op x
early Role.Ends op x = refl
early Role.Advances op x = refl

high : (v : Option Value) → Number (over v)
high (Some v) = pick-number (leb (amount_of v) 65535) 0 20 refl refl
high None = refl

value-number : (st : State) (s : List ℕ) (l : Line) → Number (value_no st s l)
unfolding value_no early_no over_no
value-number st s l =
    or_number _ _ (if-named l.name (name_refusal most_names st.names) (new st))
    (or_number _ _ (early (role_of l.operation) l.operation (operands_at (find st.names) st.counter s l))
    (or_number _ _
    (if-named l.name _ (λ name. pick-number (m_fits l.shape) _ 0 (high (name_value (find st.names) st.counter s l)) refl))
    (or_number _ _ (of_data_lem (λ f. Number (f ℕ data_no 0)) (λ d. sizes d.card d) refl l.shape)
    (pick-number (leb (st.counter + size_of l.operation l.shape) 65536) 0 24 refl refl))))

line-number : (st : State) (s : List ℕ) (l : Line) → Number (line_no st s l)
unfolding line_no
line-number st s l =
    or_number _ _ (pick-number (traits_of l.operation).known 0 12 refl refl)
    (or_number _ _ (start st.phase (role_of l.operation))
    (or_number _ _ (named (traits_of l.operation).naming l.name) (or_number _ _ (shaped l.shape) (value-number st s l))))

one_number : (st : State) (s : List ℕ) → Number (one_no st s)
unfolding one_no byte_no
one_number st s = or_number _ _ (after st.phase) (or_number _ _ (pick-number (all_accepted s) 0 10 refl refl) (go (reading_of s)))
  where
    go : (x : Reading) → Number (reading_no st s x)
    go Reading.Comment = refl
    go Reading.BadName = refl
    go (Reading.Statement l) = line-number st s l

-- BOTH PASSES: the number and the card

told : (n : ℕ) → Number n → (n ≡ 0 → ⊥) → (9 ≤ n) × (n ≤ 24)
told n h k = go (eqb n 0) refl h
  where
    go : (b : Bool) → eqb n 0 ≡ b → either b (both (leb 9 n) (leb n 24)) ≡ true → (9 ≤ n) × (n ≤ 24)
    go true e h = absurd (k (eqb-true n 0 e))
    go false e h = let (low, high) = both_true (leb 9 n) (leb n 24) h in (leb-true 9 n low, leb-true n 24 high)

-- what the cards of a source are refused with: 9 to 24 at one of them, or 9 with card 0
pub cards-number : (ss : List (List ℕ)) (number card : ℕ) → assembled ss ≡ refused number card
    → ((9 ≤ number) × (number ≤ 24) × (1 ≤ card) × (card ≤ length ss)) ⊎ ((number ≡ 9) × (card ≡ 0))
cards-number ss number card h = go (rw h at (fate ss))
  where
    Told : ℕ → ℕ → Type 0
    Told number card = ((9 ≤ number) × (number ≤ 24) × (1 ≤ card) × (card ≤ length ss)) ⊎ ((number ≡ 9) × (card ≡ 0))

    first : (number_at : ℕ → ℕ) → ((k : ℕ) → Number (number_at k)) → (number card : ℕ) → FirstRefused 1 number_at (length ss) number card → Told number card
    first number_at each number card x =
        let (low, high) = told number (subst Number x.here (each x.place)) x.refuses in
        inl (low, high, omega arith, omega arith)

    go : {number card : ℕ} → Fate ss (refused number card) → Told number card
    go (Fate.by_one number card x) = first (one_at fresh ss) (λ k. one_number _ _) number card x
    go (Fate.no_end each no_end) = inr (refl, refl)
    go (Fate.by_two each end number card x) = first (two_at (look_in ss) outset ss) (λ k. two-number _ _ _) number card x

-- so the number is none of 1 to 3, and not 30
pub cards_range : (ss : List (List ℕ)) (number card : ℕ) → assembled ss ≡ refused number card → (9 ≤ number) × (number ≤ 24) × (card ≤ length ss)
cards_range ss number card h = go (cards-number ss number card h)
  where
    go : ((9 ≤ number) × (number ≤ 24) × (1 ≤ card) × (card ≤ length ss)) ⊎ ((number ≡ 9) × (card ≡ 0)) → (9 ≤ number) × (number ≤ 24) × (card ≤ length ss)
    go (inl (low, high, from, to)) = (low, high, to)
    go (inr (e, f)) = (omega arith, omega arith, omega arith)
