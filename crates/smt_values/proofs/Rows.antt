-- Worked examples of terms of values: by computation.
use Rattle.std.proofs.Common.{refl}
use Rattle.smt_values.specs.Rows.{PartExamples, RecordExamples, SetExamples}

pub part_examples : PartExamples
part_examples = record { truth = refl; below_zero = refl; entity = refl; extension = refl; no_extension = refl }

pub set_examples : SetExamples
set_examples = record { sorted = refl; empty = refl; other_type = refl; first_element = refl; second_element = refl; element_type = refl; no_element_type = refl; no_set_type = refl }

pub record_examples : RecordExamples
record_examples = record { there = refl; absent = refl; missing = refl; first_value = refl; first_type = refl; not_converted = refl; open_type = refl; no_record_type = refl }
