use Rattle.law_blasting.proofs.Numbering.{walks_are_stated, lists_are_walked, walks_number, walks_add_nothing, numbers_stay}
use Rattle.law_blasting.proofs.laws.walks_number_variables.Goals as goal

pub returns : goal.returns
returns c = record { one = walks_are_stated; all = lists_are_walked; numbered = walks_number; again = walks_add_nothing; stays = numbers_stay }
