pub mod AttributeMap
