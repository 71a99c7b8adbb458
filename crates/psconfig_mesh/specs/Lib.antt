pub mod Body
pub mod Mesh
pub mod ReadMesh
pub mod ReadTasks
