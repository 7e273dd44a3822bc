use Rattle.std.proofs.Common.{refl}
use Rattle.std.specs.Char.{encode_utf8}
use Rattle.std.specs.Fmt.{digits}
use Rattle.std.specs.Net.Reader.{read_ipv4, read_ipv6, read_number, read_octet, read_segment, read_segments}
use Rattle.law_assignments.specs.InputRows.{InputRows}
use Rattle.law_assignments.proofs.laws.input_rows.Goals as goal

rows : InputRows
unfolding encode_utf8 digits read_ipv4 read_ipv6 read_number read_octet read_segment read_segments
rows = record { read = refl; sections = refl; get_type = refl; refused = refl; unknown_variable = refl; unknown_function = refl; unknown_selector = refl; variable_twice = refl; get_twice = refl; key_twice = refl; other_type = refl; no_literal = refl; no_member = refl; own_family = refl; missing = refl; missing_function = refl }

pub returns : goal.returns
returns c = rows
