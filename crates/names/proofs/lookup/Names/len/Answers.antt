-- As many names as records.
use Rattle.std.proofs.Common.{sym}
use Rattle.names.proofs.Table.{names-length}
use Rattle.names.proofs.lookup.Names.len.Goals as goal

pub returns : goal.returns
returns c = rw (← c.self.view_is) (sym (names-length c.self.inside.count c.self.inside.area.now))
