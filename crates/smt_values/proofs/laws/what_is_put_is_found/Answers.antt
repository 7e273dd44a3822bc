use Rattle.smt_values.proofs.PutEntity.{put-found}
use Rattle.smt_values.proofs.PutEntry.{entry-found}
use Rattle.smt_values.proofs.laws.what_is_put_is_found.Goals as goal

pub returns-clause-entity : goal.returns-clause-entity
returns-clause-entity c entity entities uid = put-found uid entity entities

pub returns-clause-entry : goal.returns-clause-entry
returns-clause-entry c type asked entry entries = entry-found type asked entry entries
