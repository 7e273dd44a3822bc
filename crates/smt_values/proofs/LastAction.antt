-- The last entry of an action among some, and one more.
use Rattle.std.proofs.Common.{◌≡◌, List, [], ◌∷◌, ◌++◌, Some, cond, ap}
use Rattle.std.proofs.lemmas.List.{reverse-append}
use Rattle.std.specs.List.{find}
use Rattle.smt_values.specs.Plain.{PlainAction}
use Rattle.smt_values.specs.Stores.{action_of}
use Rattle.smt_values.specs.Uids.{Uid, same_uid}

pub action-push : (uid : Uid) (given : List PlainAction) (a : PlainAction) → action_of (given ++ a ∷ []) uid ≡ cond (same_uid a.uid uid) (Some a) (action_of given uid)
action-push uid given a = ap (find (λ action. same_uid action.uid uid)) (reverse-append given (a ∷ []))
