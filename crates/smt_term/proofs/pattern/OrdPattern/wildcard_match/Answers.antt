use Rattle.std.proofs.Common.{◌≡◌, map, ap, ◌∙◌}
use Rattle.std.specs.Str.{chars}
use Rattle.law_terms.specs.Patterns.{matches}
use Rattle.smt_term.specs.PatternView.{plain_part}
use Rattle.smt_term.proofs.PatternSearch.{front_decides, front_text}
use Rattle.smt_term.proofs.pattern.OrdPattern.wildcard_match.Goals as goal

pub loop-front-init : goal.loop-front-init
loop-front-init c =
    let e : c.as_slice.result.now ≡ c.args.self.now.elems.value.items = cc in
    record {
      same = front_decides (map plain_part c.as_slice.result.now) (chars c.args.s.now) c.front_of-front.result c.front_of-front.ensures ∙ ap (λ l. matches (map plain_part l) (chars c.args.s.now)) e;
      text = front_text (map plain_part c.as_slice.result.now) (chars c.args.s.now) c.front_of-front.result c.front_of-front.ensures;
    }
