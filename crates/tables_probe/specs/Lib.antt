-- What the probe's contracts cite beside the tables' own definitions
pub mod Probe
