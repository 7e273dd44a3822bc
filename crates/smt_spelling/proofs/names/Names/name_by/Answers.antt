use Rattle.std.proofs.Common.{◌≡◌, Bool, true, false, sym, ◌∙◌}
use Rattle.std.specs.Prelude.{not}
use Rattle.smt_nodes.specs.Subject.{meaning_of}
use Rattle.smt_spelling.specs.NodeLines.{has_entry}
use Rattle.smt_spelling.proofs.Named.{name_found}
use Rattle.smt_spelling.proofs.names.Names.name_by.Goals as goal

-- what is not denied
affirmed : (b : Bool) → not b ≡ false → b ≡ true
affirmed true h = cc
affirmed false h = cc

pub returns : goal.returns
returns g c =
    let m = meaning_of c.args.subject in
    name_found c.args.self.now.nodes c.args.self.now.texts m c.in_ok-id.id _ c.in_ok-id.ensures.found (affirmed (has_entry m) (sym c.is_inline.ensures ∙ c.if-is_inline.false)) (sym c.get.ensures.text)
