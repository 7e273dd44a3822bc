use Rattle.std.proofs.Common.{sym, ap, ◌∙◌}
use Rattle.smt_values.proofs.TypePairs.{attributes_shared}
use Rattle.smt_values.specs.Cedar.{ExtensionNamed}
use Rattle.smt_values.specs.TypeView.{pairs_held, plain_cedar, plain_cedar-Entity, plain_cedar-ExtensionType, plain_cedar-Set}
use Rattle.smt_values.specs.declared.attributes.Attributes.{out-Attributes}
use Rattle.smt_values.proofs.+share.Goals as goal

pub attributes::Attributes::share-of_ascending-requires : goal.attributes::Attributes::share-of_ascending-requires
attributes::Attributes::share-of_ascending-requires t c =
    attributes_shared c.loop-name.pairs.items c.items-name-items.result.now (pairs_held c.args.self.now) c.loop-name.name-index c.loop-name-test.false c.loop-name.invariant c.items-name-items.ensures.same (out-Attributes c.args.self.now).pairs.ascending

pub cedar_type::CedarType::share-returns-in_ok-shared_element-in-Set : goal.cedar_type::CedarType::share-returns-in_ok-shared_element-in-Set
cedar_type::CedarType::share-returns-in_ok-shared_element-in-Set t c =
    plain_cedar-Set c.in_ok-shared_element-in-Set.field-0 ∙ c.in_ok-shared_element-in-Set.ensures ∙ sym (plain_cedar-Set c.in-Set.element_type) ∙ ap plain_cedar (sym c.in-Set.is)

pub cedar_type::CedarType::share-returns-in_ok-share-in-Entity : goal.cedar_type::CedarType::share-returns-in_ok-share-in-Entity
cedar_type::CedarType::share-returns-in_ok-share-in-Entity t c =
    plain_cedar-Entity c.in_ok-share-in-Entity.field-0 ∙ c.in_ok-share-in-Entity.ensures ∙ sym (plain_cedar-Entity c.in-Entity.kind) ∙ ap plain_cedar (sym c.in-Entity.is)

pub cedar_type::CedarType::share-returns-in_ok-share_text-in-ExtensionType : goal.cedar_type::CedarType::share-returns-in_ok-share_text-in-ExtensionType
cedar_type::CedarType::share-returns-in_ok-share_text-in-ExtensionType t c =
    plain_cedar-ExtensionType c.in_ok-share_text-in-ExtensionType.field-0 ∙ ap ExtensionNamed c.in_ok-share_text-in-ExtensionType.ensures ∙ sym (plain_cedar-ExtensionType c.in-ExtensionType.name) ∙ ap plain_cedar (sym c.in-ExtensionType.is)
