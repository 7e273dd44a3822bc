-- Tables, cut at a mark.
use Rattle.std.proofs.Common.{◌≡◌, take, map, sym, ap, ◌∙◌}
use Rattle.std.proofs.lemmas.List.{take-map}
use Rattle.std.specs.Rc.{rc_str_bytes}
use Rattle.smt_mini.specs.Tables.{cut, plain_name, table_of}
use Rattle.smt_mini.specs.declared.tables.Mark.{Mark}
use Rattle.smt_mini.specs.declared.tables.Tables.{Tables}

pub cut_so : (t u : Tables) (m : Mark) → u.gates.items ≡ take m.gates t.gates.items → u.names.items ≡ take m.names t.names.items → u.constants.items ≡ take m.constants t.constants.items
    → u.assertions.items ≡ take m.assertions t.assertions.items → u.options ≡ m.options → table_of u ≡ cut m (table_of t)
cut_so t u m g n c a o =
    let names = ap (map plain_name) n ∙ sym (take-map plain_name m.names t.names.items) in
    let constants = ap (map rc_str_bytes) c ∙ sym (take-map rc_str_bytes m.constants t.constants.items) in
    λ i. record { gates = g i; names = names i; constants = constants i; assertions = a i; options = o i }
