use Rattle.std.proofs.Common.{rules, refl}
use Rattle.std.specs.Str.{chars}
use Rattle.law_theorem.proofs.conditions.these_are_conditions.Goals as goal

pub returns : goal.returns
unfolding chars
returns c = record {
  are_typed = (record { parts = refl; type = refl }, (record { parts = refl; type = refl }, (record { parts = refl; type = refl }, (record { parts = refl; type = refl }, tt))));
  are_formed = (record { literals = search rules; types = search rules }, (record { literals = search rules; types = search rules }, (record { literals = search rules; types = search rules }, (record { literals = search rules; types = search rules }, tt))));
  have_no_fault = refl;
}
