use Rattle.law_scripts.proofs.Sampled as laws
use Rattle.law_scripts.proofs.samples.scripts_and_none.Goals as goal

pub returns : goal.returns
returns c = record { script = laws.sample_is_script; enums = laws.enum_sample_is_script; records = laws.record_sample_is_script; levels = laws.level_sample_is_script; sorted = laws.sorted_samples; operators = laws.operators_give; selectors = laws.selectors_sampled; built_in = laws.built_in_declared; used = laws.use_before_declaration; twice = laws.twice_declared; escapes = laws.escapes_decode }
