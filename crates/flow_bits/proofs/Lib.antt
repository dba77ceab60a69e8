-- How the readers and writers of a flow byte are shown to do what its definitions say. A flag is a bit, so that each test is a mask: Bytes has the
-- laws of the two masks of more than one bit, all of 0xE0 and the low half. Bits says how large a direction's bits are, and that they are 0 only for
-- no direction. Each function's own proof goes through its cases with these.
pub mod Bytes
pub mod Bits
