-- Operands, bases, pieces and the states of both passes raised by d: everything relocatable is d higher, all else stays.
use Rattle.std.specs.Prelude.{◌+◌}
use Rattle.theorems.specs.Logic.{ℕ, map, Option, None, Some, Result, Ok, Err}
use Rattle.theorems.specs.Types.{EvaluatedAddress, Operands, Bases, Operand, Course, Piece, plain, value, State, Value, Fault, Refusal}
use Rattle.names.specs.Raised.{raised_value, raised_name}

module _ (d : ℕ) where
  -- OPERANDS

  abbrev pub raised_maybe : Option Value → Option Value
  raised_maybe (Some v) = Some (raised_value d v)
  raised_maybe None = None

  abbrev pub raised_evaluated : Result Value Fault → Result Value Fault
  raised_evaluated (Ok v) = Ok (raised_value d v)
  raised_evaluated (Err f) = Err f

  abbrev pub raised_item : Option (Result Value Fault) → Option (Result Value Fault)
  raised_item None = None
  raised_item (Some e) = Some (raised_evaluated e)

  abbrev pub raised_address : EvaluatedAddress → EvaluatedAddress
  raised_address a = record {
    address = raised_evaluated a.address;
    length = raised_item a.length;
    register = raised_item a.register;
    implied = a.implied;
  }

  abbrev pub raised_operands : Operands → Operands
  raised_operands (Operands.TwoAddresses a b) = Operands.TwoAddresses (raised_address a) (raised_address b)
  raised_operands (Operands.AddressAndCode a q) = Operands.AddressAndCode (raised_address a) (raised_evaluated q)
  raised_operands (Operands.LoneAddress a) = Operands.LoneAddress (raised_address a)
  raised_operands (Operands.Pair e q) = Operands.Pair (raised_evaluated e) (raised_evaluated q)
  raised_operands (Operands.Lone e) = Operands.Lone (raised_evaluated e)
  raised_operands (Operands.AddressConstants n m e) = Operands.AddressConstants n m (raised_evaluated e)
  raised_operands Operands.NoExpression = Operands.NoExpression

  -- the bases of USING
  abbrev pub raised_bases : Bases → Bases
  raised_bases b = record { one = raised_maybe b.one; two = raised_maybe b.two }

  -- an indexed operand keeps its register and its displacement byte
  abbrev pub raised_operand : Operand → Operand
  raised_operand (Operand.Direct v) = Operand.Direct (raised_value d v)
  raised_operand (Operand.Indexed v r displacement) = Operand.Indexed (raised_value d v) r displacement

  abbrev pub raised_placed : Result (Option Operand) Refusal → Result (Option Operand) Refusal
  raised_placed (Ok (Some x)) = Ok (Some (raised_operand x))
  raised_placed (Ok None) = Ok None
  raised_placed (Err r) = Err r

  -- TEXT

  -- a plain byte stays, a value of two bytes is raised
  abbrev pub raised_piece : Piece → Piece
  raised_piece (plain b) = plain b
  raised_piece (value v) = value (raised_value d v)

  -- THE PASSES, between two cards

  abbrev pub raised_state : State → State
  raised_state st = record { counter = st.counter + d; names = map (raised_name d) st.names; phase = st.phase }

  abbrev pub raised_course : Course → Course
  raised_course c = record { counter = c.counter + d; bases = raised_bases c.bases }
