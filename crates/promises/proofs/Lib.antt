-- What rests on definitions that a must-fail change turns, and so stands here; the map is in specs/Lib. Folders have their pages as there.
pub mod Images
pub mod Volumes
pub mod Extents
-- What every answer about a file hangs on.
pub mod Locality
pub mod Reading
pub mod Salvage
pub mod Writing
pub mod Refusals
pub mod Bounds
pub mod Making
pub mod Unseen
-- The promises at the image; the demands; the requests; and that they hold of something.
pub mod Promises
pub mod Demands
pub mod Requested
pub mod Instances
