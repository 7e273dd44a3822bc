use Rattle.std.proofs.Common.{Ok, refl}
use Rattle.smt_term.proofs.AscendingTexts.{members_ascend}
use Rattle.smt_term.specs.Enums.{enums_of}
use Rattle.smt_term.proofs.FormedTerms.{terms_are_formed}
use Rattle.smt_term.specs.View.{plain_term}
use Rattle.smt_pool.specs.Pool.{pool_starter, pool_state}
use Rattle.smt_review.proofs.Asking.{same_then}
use Rattle.smt_review.proofs.Reviewing.{again, again_without, all_believed, all_unreviewed, back_by, finds, out_idle}
use Rattle.smt_review.proofs.reviews.review.Goals as goal

pub returns-in-Ok-clause-found : goal.returns-in-Ok-clause-found
returns-in-Ok-clause-found g c =
    let state = g.P.L.Link.state in
    let allows = g.P.L.Link.allows in
    let allowed = g.P.Starter.allows (pool_starter c.args.pool.now) in
    let now = g.P.Starter.allows (pool_starter c.release.new.self) in
    let old = pool_state g.P.Starter.state c.args.pool.now in
    let between = pool_state g.P.Starter.state c.acquire.new.self in
    let new = pool_state g.P.Starter.state c.release.new.self in
    let out = c.in_ok-session.ensures.acquired in
    let idle = out_idle state allows allowed old between c.in_ok-session.session c.requires.idle out c.in_ok-session.ensures.honest in
    finds state allows (enums_of c.args.enums.now) c.args.relation (plain_term c.args.a) (plain_term c.args.b) (members_ascend c.args.enums.now) c.requires.first c.requires.second (terms_are_formed c.args.a) (terms_are_formed c.args.b)
    allowed now old between new c.in_ok-session.session c.ask-answer.new.session out c.ask-answer.result idle.1 c.ask-answer.ensures.askable c.ask-answer.ensures.answered
    (back_by c.in-Ok.field-0 (Ok c.in-Ok.field-0) refl c.in-Ok.ensures.kept c.in-Ok.ensures.not_kept)

pub returns-in-Ok-clause-believed : goal.returns-in-Ok-clause-believed
returns-in-Ok-clause-believed g c tell honest =
    all_believed g.P.L.Link.state g.P.L.Link.allows (enums_of c.args.enums.now) c.args.relation (plain_term c.args.a) (plain_term c.args.b) (members_ascend c.args.enums.now) c.requires.first c.requires.second (terms_are_formed c.args.a) (terms_are_formed c.args.b)
    (g.P.Starter.allows (pool_starter c.args.pool.now)) (g.P.Starter.allows (pool_starter c.release.new.self)) (pool_state g.P.Starter.state c.args.pool.now) (pool_state g.P.Starter.state c.acquire.new.self) (pool_state g.P.Starter.state c.release.new.self)
    c.in_ok-session.session c.ask-answer.new.session c.in_ok-session.ensures.acquired c.ask-answer.result (returns-in-Ok-clause-found g c) tell honest

pub returns-in-Ok-clause-refused : goal.returns-in-Ok-clause-refused
returns-in-Ok-clause-refused g c =
    all_unreviewed g.P.L.Link.state g.P.L.Link.allows (enums_of c.args.enums.now) c.args.relation (plain_term c.args.a) (plain_term c.args.b) (members_ascend c.args.enums.now) c.requires.first c.requires.second (terms_are_formed c.args.a) (terms_are_formed c.args.b)
    (g.P.Starter.allows (pool_starter c.args.pool.now)) (g.P.Starter.allows (pool_starter c.release.new.self)) (pool_state g.P.Starter.state c.args.pool.now) (pool_state g.P.Starter.state c.acquire.new.self) (pool_state g.P.Starter.state c.release.new.self)
    c.in_ok-session.session c.ask-answer.new.session c.in_ok-session.ensures.acquired c.ask-answer.result c.ask-answer.ensures.failed
    (back_by c.in-Ok.field-0 (Ok c.in-Ok.field-0) refl c.in-Ok.ensures.kept c.in-Ok.ensures.not_kept) c.ask-answer.ensures.refused

pub returns-in-Ok-clause-kept : goal.returns-in-Ok-clause-kept
returns-in-Ok-clause-kept g c =
    let state = g.P.L.Link.state in
    let allows = g.P.L.Link.allows in
    let allowed = g.P.Starter.allows (pool_starter c.args.pool.now) in
    let middle = g.P.Starter.allows (pool_starter c.acquire.new.self) in
    let now = g.P.Starter.allows (pool_starter c.release.new.self) in
    let old = pool_state g.P.Starter.state c.args.pool.now in
    let between = pool_state g.P.Starter.state c.acquire.new.self in
    let new = pool_state g.P.Starter.state c.release.new.self in
    let out = c.in_ok-session.ensures.acquired in
    let idle = out_idle state allows allowed old between c.in_ok-session.session c.requires.idle out c.in_ok-session.ensures.honest in
    again state allows (enums_of c.args.enums.now) c.args.relation (plain_term c.args.a) (plain_term c.args.b) (members_ascend c.args.enums.now) c.requires.first c.requires.second (terms_are_formed c.args.a) (terms_are_formed c.args.b)
    allowed now old between new c.in_ok-session.session c.ask-answer.new.session out c.ask-answer.result c.in-Ok.ensures.takes_back (same_then allowed middle now c.acquire.ensures.allows c.release.ensures.allows) c.ask-answer.ensures.failed idle.0 idle.1
    c.ask-answer.ensures.askable c.ask-answer.ensures.answered c.ask-answer.ensures.allows (back_by c.in-Ok.field-0 (Ok c.in-Ok.field-0) refl c.in-Ok.ensures.kept c.in-Ok.ensures.not_kept)

pub returns-in-Err-clause-kept : goal.returns-in-Err-clause-kept
returns-in-Err-clause-kept g c =
    let state = g.P.L.Link.state in
    let allows = g.P.L.Link.allows in
    let allowed = g.P.Starter.allows (pool_starter c.args.pool.now) in
    let middle = g.P.Starter.allows (pool_starter c.acquire.new.self) in
    let now = g.P.Starter.allows (pool_starter c.release.new.self) in
    let old = pool_state g.P.Starter.state c.args.pool.now in
    let between = pool_state g.P.Starter.state c.acquire.new.self in
    let new = pool_state g.P.Starter.state c.release.new.self in
    let out = c.in_ok-session.ensures.acquired in
    let idle = out_idle state allows allowed old between c.in_ok-session.session c.requires.idle out c.in_ok-session.ensures.honest in
    again_without state allows (enums_of c.args.enums.now) c.args.relation (plain_term c.args.a) (plain_term c.args.b) (members_ascend c.args.enums.now) c.requires.first c.requires.second (terms_are_formed c.args.a) (terms_are_formed c.args.b)
    allowed now old between new c.in_ok-session.session c.ask-answer.new.session out c.in-Err.field-0 c.in-Err.ensures.takes_back (same_then allowed middle now c.acquire.ensures.allows c.release.ensures.allows) idle.0
