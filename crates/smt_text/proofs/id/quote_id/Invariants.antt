use Rattle.std.proofs.Common.{◌≡◌, ◌++◌, length, drop}
use Rattle.std.specs.Prelude.{codes, encode_utf8_all}
use Rattle.std.specs.Str.{chars}
use Rattle.std.specs.List.{flat_map}
use Rattle.std.specs.String.{string_bytes}
use Rattle.law_texts.specs.Quoting.{quoted_id_byte}
use Rattle.smt_text.proofs.id.quote_id.Given as goal

-- what is written so far and what is left are the quoted characters
abbrev pub invariant-loop-c : goal.invariant-loop-c
invariant-loop-c l = string_bytes l.quoted ++ flat_map quoted_id_byte (encode_utf8_all (drop (length l.yielded) (chars l.id))) ≡ codes "\"" ++ flat_map quoted_id_byte (encode_utf8_all (chars l.id))
