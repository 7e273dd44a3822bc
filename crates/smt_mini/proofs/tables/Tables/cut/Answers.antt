use Rattle.std.proofs.Common.{refl}
use Rattle.smt_mini.proofs.TablesCut.{cut_so}
use Rattle.smt_mini.proofs.tables.Tables.cut.Goals as goal

pub returns : goal.returns
returns c =
    cut_so c.args.self.now (record { gates = c.truncate.new.self; names = c.truncate-2.new.self; constants = c.truncate-3.new.self; assertions = c.truncate-4.new.self; options = c.args.mark.now.options }) c.args.mark.now
    c.truncate.ensures.items c.truncate-2.ensures.items c.truncate-3.ensures.items c.truncate-4.ensures.items refl
