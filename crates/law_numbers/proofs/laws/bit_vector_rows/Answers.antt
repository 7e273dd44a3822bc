use Rattle.std.proofs.Common.{refl}
use Rattle.law_numbers.proofs.laws.bit_vector_rows.Goals as goal

pub returns : goal.returns
returns c = record { quotients = refl; remainders = refl; moduli = refl; unsigned_quotients = refl; unsigned_remainders = refl; sums = refl; differences = refl; products = refl; complements = refl; negations = refl; left = refl; right = refl; far = refl; joined = refl; high_half = refl; low_half = refl; one_bit = refl; extended = refl; truncated = refl; values = refl; bits = refl; least = refl; greatest = refl; outside = refl; less = refl; at_most = refl; less_signed = refl; at_most_signed = refl; negations_overflow = refl; sums_overflow = refl; differences_overflow = refl; products_overflow = refl; widths = refl; numbers = refl }
