-- Every row of the table comes to what it must, and the sample deck of R20.2 is there at two starts: one computation over the definitions.
use mathlib.Core.List.{[], map}
use mathlib.Core.Path.{◌≡◌, refl}
use mathlib.Core.Bool.{true}
use Rattle.values.specs.Tests.{or_else, lower}
use Rattle.values.specs.Values.{moved_by}
use Rattle.values.specs.Words.{word, long}
use Rattle.letters.specs.Letters.{class_of, coded_from, listed, code_in, code_of, digit_of}
use Rattle.letters.specs.Text.{bytes, is_one_of, is_from_to, run_end}
use Rattle.terms.specs.Names.{name_byte, name_number, name_at}
use Rattle.terms.specs.Terms.{digits_from, decimal_at, closed_at, numeral_at, hex_at, binary_at, quoted_at, characters_at, symbol_at, lettered_at, term_at}
use Rattle.names.specs.Names.{find, defined, name_refusal}
use Rattle.expressions.specs.Form.{factors_from, factors_at, product_at, products_from, products_at}
use Rattle.expressions.specs.Value.{times, times_out, any_relocatable, any_undefined, added, subtracted, after_plus, after_minus, any_out, any_mixed, any_unknown, value_of, evaluated}
use Rattle.cards.specs.Fields.{all_accepted, byte_no, operand_end, fields_behind, card_of}
use Rattle.operations.specs.Codes.{two_address, one_address, branch}
use Rattle.mnemonics.specs.Model10.{own_operations, two_addresses, one_addresses, branches, jumps, extended_moves, extended_branches, extended_jumps, model10}
use Rattle.mnemonics.specs.Rows.{letters_of, number5, operation_in, word_letter, word_number, operation_at}
use Rattle.book.specs.Book.{fields_fit, fair, record_ok, records_from, header_ok, entry_at, book_of}
use Rattle.book.specs.Writing.{record_bytes, records_bytes, book_bytes}
use Rattle.fields.specs.Fields.{moved_in, over_in}
use Rattle.load.specs.Load.{stored, stored_all, bytes_stored, first_card, judged, loading}
use Rattle.data.specs.Form.{type_of, copies_before, length_at, head_at, characters_from, characters_at as charactersAt-data, run_at, address_at, value_at, constant_behind, constant_form, reserve_form}
use Rattle.data.specs.Runs.{digits_end, number_from, told}
use Rattle.data.specs.Sizes.{length_fits, data_size, constant_no, reserve_no}
use Rattle.data.specs.Text.{codes_from, pairs_from, hex_bytes, characters_text, hexadecimal_text, decimal_text, repeated, constant_text}
use Rattle.addresses.specs.Address.{closed, register_at, behind_length, length_at as lengthAt-addresses, or_register, behind_address, address_at as addressAt-addresses}
use Rattle.forms.specs.Shape.{ended, last_at, start_term, start_shape, end_shape, pair_shape, two_of, two_shape, one_shape, only_shape, constant_shape, reserve_shape}
use Rattle.operands.specs.Kinds.{expressions_no}
use Rattle.operands.specs.Operands.{operands_of}
use Rattle.places.specs.Codes.{lengths_code, length_code, item_code, register_code, written_code, code_of as codeOf-places}
use Rattle.places.specs.Places.{away_from, displaced_by, indexed_by, operand_of, jump_code, places_no, bases_by}
use Rattle.statements.specs.Statements.{statement_no, statement_from}
use Rattle.lines.specs.Lines.{line_of, reading_of}
use Rattle.encode.specs.Pieces.{text_of, offsets_from, address_pieces, copied, pieces_of}
use Rattle.passes.specs.Assembly.{assembled}
use Rattle.passes.specs.Cards.{counter_after, name_value}
use Rattle.passes.specs.One.{early_no, over_no, value_no, line_no, one_no, names_after, step_one, pass_one}
use Rattle.passes.specs.Two.{two_no, step_two, check_two, line_pieces, card_pieces, card_records, entry_from, book_from}
use Rattle.operations.specs.declared.Operation.TheVariants.{Start}
use Rattle.forms.specs.declared.Shape.TheVariants.{StartAt}
use Rattle.theorems.specs.Moved.{Starting, SameButStart}
use Rattle.examples.specs.Table.{expected, columns, record_answer, comes_to, rows}
use Rattle.examples.specs.Sample.{behind_start, sample_at, pay, is_made}
use Rattle.std.specs.Prelude.{Some, Ok}

abbrev Computed : Type 0
Computed =
    (map comes_to rows ≡ map expected rows)
    × (is_made (assembled (sample_at "PAY START 0")) ≡ true) × (is_made (assembled (sample_at "PAY START X'0100'")) ≡ true)
    × (Starting (columns "PAY START 0") (Some pay) 0) × (Starting (columns "PAY START X'0100'") (Some pay) 256)

computed : Computed
unfolding record_answer comes_to rows or_else lower moved_by word long class_of coded_from listed code_in code_of digit_of bytes is_one_of is_from_to run_end name_byte name_number name_at digits_from decimal_at closed_at numeral_at hex_at binary_at quoted_at characters_at symbol_at lettered_at term_at find defined name_refusal factors_from factors_at product_at products_from products_at times times_out any_relocatable any_undefined added subtracted after_plus after_minus any_out any_mixed any_unknown value_of evaluated all_accepted byte_no operand_end fields_behind card_of two_address one_address branch own_operations two_addresses one_addresses branches jumps extended_moves extended_branches extended_jumps model10 letters_of number5 operation_in word_letter word_number operation_at fields_fit fair record_ok records_from header_ok entry_at book_of record_bytes records_bytes book_bytes moved_in over_in stored stored_all bytes_stored first_card judged loading type_of copies_before length_at head_at characters_from charactersAt-data run_at address_at value_at constant_behind constant_form reserve_form digits_end number_from told length_fits data_size constant_no reserve_no codes_from pairs_from hex_bytes characters_text hexadecimal_text decimal_text repeated constant_text closed register_at behind_length lengthAt-addresses or_register behind_address addressAt-addresses ended last_at start_term start_shape end_shape pair_shape two_of two_shape one_shape only_shape constant_shape reserve_shape expressions_no operands_of lengths_code length_code item_code register_code written_code codeOf-places away_from displaced_by indexed_by operand_of jump_code places_no bases_by statement_no statement_from line_of reading_of text_of offsets_from address_pieces copied pieces_of assembled counter_after name_value early_no over_no value_no line_no one_no names_after step_one pass_one two_no step_two check_two line_pieces card_pieces card_records entry_from book_from
computed = (
  refl,
  refl,
  refl,
  record { line = record { name = Some pay; operation = Start; shape = Ok (StartAt 0); operand = 10; end = 11 }; reads = refl; operation = refl; name = refl; value = refl },
  record { line = record { name = Some pay; operation = Start; shape = Ok (StartAt 256); operand = 10; end = 17 }; reads = refl; operation = refl; name = refl; value = refl },
)

pub all-rows : map comes_to rows ≡ map expected rows
all-rows = computed.0

-- DEMAND 3 SPEAKS OF SOMETHING: the sample deck, started at 0 and at X'0100', meets the premise, and both decks are accepted

pub premise_met : SameButStart 256 (sample_at "PAY START 0") (sample_at "PAY START X'0100'")
premise_met = record {
  before = [];
  after = behind_start;
  first = columns "PAY START 0";
  second = columns "PAY START X'0100'";
  name = Some pay;
  start = 0;
  lower = refl;
  higher = refl;
  starts = computed.3;
  starts_higher = computed.4;
}

pub lower-accepted : is_made (assembled (sample_at "PAY START 0")) ≡ true
lower-accepted = computed.1

pub higher-accepted : is_made (assembled (sample_at "PAY START X'0100'")) ≡ true
higher-accepted = computed.2
