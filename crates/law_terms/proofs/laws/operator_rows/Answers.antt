use Rattle.std.proofs.Common.{refl}
use Rattle.law_terms.proofs.laws.operator_rows.Goals as goal

pub returns : goal.returns
returns c = record { likes = refl; inner_wildcards = refl; sets = refl; signed_sets = refl; intersections = refl; subsets = refl; supersets = refl; members = refl; extensions = refl; inside = refl; inside_none = refl; addresses = refl; other_addresses = refl; both = refl; one = refl; neither = refl; choices = refl; bits = refl; less = refl; equal = refl; least = refl; least_less_one = refl; small = refl; negations = refl; negations_overflow = refl; is_member = refl; attributes = refl; functions = refl; signed_bits = refl; from_bits = refl; families = refl; prefixes = refl; long_addresses = refl; long_prefixes = refl; no_parts = refl; ascending = refl }
