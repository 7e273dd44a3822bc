use Rattle.law_theorem.proofs.KeysSound as laws
use Rattle.law_theorem.proofs.fitting.keys_are_sound.Goals as goal

pub returns : goal.returns
returns c = laws.keys_are_sound
