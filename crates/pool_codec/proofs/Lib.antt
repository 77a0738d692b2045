pub mod KeysOfVolumes
pub mod LeavesKept
pub mod NewMirrors
pub mod PagesTold
pub mod TreesTold
