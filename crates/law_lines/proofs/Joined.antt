use Rattle.std.proofs.Common.{◌≡◌, List, [], ◌∷◌, refl}
use Rattle.std.specs.Prelude.{map}
use Rattle.std.proofs.lemmas.List.{append_assoc}
use Rattle.law_texts.specs.Reading.{Expression, expressions}
use Rattle.law_scripts.specs.Script.{name}
use Rattle.law_lines.specs.Spelling.{spelled, spelled_others}
use Rattle.law_lines.specs.Lines.{after_call}
use Rattle.law_lines.specs.Joins.{TextsReplaceExpressions, LinesJoin, CallsJoin}

others_stand : (es : List Expression) → spelled_others (expressions es) ≡ spelled_others (expressions (map (λ x. name (spelled x)) es))
others_stand [] = refl
others_stand (e ∷ es) = rw (others_stand es)

pub texts_stand : TextsReplaceExpressions
texts_stand e [] = refl
texts_stand e (f ∷ es) = rw (others_stand es)

pub lines_join : LinesJoin
lines_join [] ms = refl
lines_join (l ∷ ls) ms = rw (lines_join ls ms, append_assoc)

pub calls_join : CallsJoin
calls_join enums [] ds s = (refl, refl)
calls_join enums (c ∷ cs) ds s =
    let h = calls_join enums cs ds (after_call enums c s) in
    (rw (h.0, append_assoc), h.1)
