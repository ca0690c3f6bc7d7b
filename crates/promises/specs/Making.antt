-- Request 2026-01, creating and deleting files: the lowest free run and deleted slot; a write to a file that is the same; an image in which one slot's sector is another;
-- the image after a delete; the label to be made, and its fault; the image after a create, and the new file; when each is done or refused.
pub mod RunsFree
pub mod Drafts
pub mod AddedRows
pub mod ProposedFaults
