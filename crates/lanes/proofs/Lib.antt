pub mod FourRoots
