pub mod KeyTrees
