use Rattle.smt_spelling.specs.NodeTexts.{kept_below, kept_now}
use Rattle.smt_spelling.specs.Names.{enums_under}
use Rattle.smt_spelling.proofs.Levels.{all_still_kept}
use Rattle.smt_spelling.proofs.Named.{all_grow, kept_grows, no_fewer, sound_grows}
use Rattle.smt_spelling.proofs.Whole.{whole_grows}
use mathlib.Core.Logic.{∥∥₁_map}
use Rattle.smt_spelling.proofs.names.Names.intern.Goals as goal

pub invariant_of-self : goal.invariant_of-self
invariant_of-self c = record { sound = sound_grows _ c.args.self.now.nodes c.intern_terms.new.self c.args.self.now.texts c.intern_terms.ensures.kept (no_fewer c.args.self.now.nodes c.intern_terms.new.self c.intern_terms.ensures.kept) c.args.self.now.sound; whole = ∥∥₁_map c.args.self.now.whole (whole_grows c.args.self.now.nodes c.intern_terms.new.self c.args.self.now.texts c.intern_terms.ensures.kept c.args.self.now.sound.within) }

pub returns-clause-tables : goal.returns-clause-tables
returns-clause-tables c s are =
    let n = c.args.self.now in
    kept_grows n.nodes c.intern_terms.new.self n.texts c.intern_terms.ensures.kept n.sound.within (enums_under n) (kept_now n.texts) s (λ place x h. h) are

pub returns-clause-levels : goal.returns-clause-levels
returns-clause-levels c below are =
    let n = c.args.self.now in
    all_grow n.nodes c.intern_terms.new.self n.texts c.intern_terms.ensures.kept n.sound.within (enums_under n) (kept_below n.texts) below (all_still_kept n.texts) are
