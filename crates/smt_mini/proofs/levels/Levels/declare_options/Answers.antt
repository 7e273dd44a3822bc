use Rattle.std.proofs.Common.{sym, ◌∙◌, refl}
use Rattle.smt_mini.specs.Tables.{table_of}
use Rattle.smt_mini.proofs.Leveled.{again_refused, options_declared, options_refused, stands_fits}
use Rattle.smt_mini.proofs.levels.Levels.declare_options.Goals as goal
use Rattle.smt_mini.proofs.levels.Levels.declare_options.Goals.{then-self-via-then-self, then-self-via-else-self+then-are_taken}

pub returns-then-self : goal.returns-then-self
returns-then-self c s h running inside = elim c.then-self.branch [
  | then-self-via-then-self w ↦ again_refused (table_of c.args.self.now.tables) s (stands_fits c.args.self.now s h) w.if-self.true
  | then-self-via-else-self+then-are_taken w ↦ options_refused s (sym (w.are_taken.ensures s (stands_fits c.args.self.now s h)) ∙ w.if-are_taken.true)
]

pub returns : goal.returns
returns c s h running inside =
    let f = stands_fits c.args.self.now s h in
    options_declared c.args.self.now (record { tables = c.add_options.new.self; marks = c.args.self.now.marks }) s running h refl c.if-self.false (sym (c.are_taken.ensures s f) ∙ c.if-are_taken.false) c.in_ok-add_options.ensures
