-- `records::put_text_bytes` meets its contract: the columns of a constant are plain bytes.
use Rattle.encode.proofs.Laws.{plain-text}
use Rattle.making.proofs.records.put_text_bytes.Goals as goal

pub returns-in-Columns : goal.returns-in-Columns
returns-in-Columns c = rw (c.in-Columns.is, plain-text) c.put_constant.ensures
