-- The image: data addresses, and the sectors that they are in; what is not judged of sectors 01 to 07, and images equal but for that and for bodies that are not
-- trusted; every byte in one sector.
pub mod AddressLaws
pub mod Tiling
pub mod Sectors
pub mod SectorLaws
pub mod Unjudged
