use Rattle.std.specs.Prelude.{refl}
use Rattle.std.specs.Str.{chars}
use Rattle.std.specs.Fmt.{digits}
use Rattle.law_lines.proofs.rows.hostile_texts.Goals as goal

pub returns : goal.returns
unfolding digits chars
returns c = refl
