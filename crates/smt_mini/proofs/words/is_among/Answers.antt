use Rattle.std.proofs.Common.{rules, bytes_eq, ◌∙◌, ℕ, List, Bor}
use Rattle.std.proofs.lemmas.Iterator.{YieldsList-from_slice}
use Rattle.std.proofs.lemmas.Iterator.Search.{any_from_yields_List}
use Rattle.smt_mini.proofs.Shapes.{any_mapped}
use Rattle.smt_mini.proofs.words.is_among.Goals as goal

pub returns : goal.returns
returns c =
    any_from_yields_List (λ (w : Bor (List ℕ)). bytes_eq c.args.name.now w.now) _ _ _ c.any.ensures.ran (YieldsList-from_slice c.args.words.now cc) (λ x b q k. search rules)
    ∙ any_mapped (λ (w : Bor (List ℕ)). w.now) (bytes_eq c.args.name.now) c.args.words.now
