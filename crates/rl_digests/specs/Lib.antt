pub mod FedBytes
