pub mod attribute_map
